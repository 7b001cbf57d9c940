use Rattle.std.proofs.Common.{rules, ap, ◌∙◌, length, arith}
use Rattle.std.proofs.lemmas.List.{length-append}
use Rattle.store.specs.FoundView.{found_view, offers_of}
use Rattle.store.proofs.PendingOffers.{length-offers, offers_appended, on_err}
use Rattle.store.proofs.Bytes.{found_suit}
use Rattle.store.proofs.table.PositionTable.enter_all.Goals as goal

pub append_parcel-requires : goal.append_parcel-requires
append_parcel-requires g c =
    let a = c.self.inside in let p = c.args.parcel.now in (
      search rules,
      (
        c.self.invariant.0,
        (
          c.requires.share,
          (
            c.requires.rank,
            (
              found_suit g.row.N g.row.M a.boxes a.squares a.start a.table.entries a.pending.items c.args.self.now p.successors c.self.invariant.1 c.self.view_is
                  c.requires.few,
              omega (arith, c.in_ok-reserve.ensures.ok.1, ap length c.successors-successors.ensures),
            ),
          ),
        ),
      ),
    )

pub returns-in_err-reserve-clause-err : goal.returns-in_err-reserve-clause-err
returns-in_err-reserve-clause-err g c = on_err c.from_residual.result (c.reserve.ensures.same c.self.inside.boxes c.self.inside.squares ∙ c.self.view_is)

pub invariant_of-self-2 : goal.invariant_of-self-2
invariant_of-self-2 g c =
    let p = c.args.parcel.now in
    let offers = offers_of c.args.shares c.args.share p.rank p.successors in (
      c.self.invariant.0,
      c.self.invariant.1,
      c.reserve.ensures.found,
      omega (
        arith,
        ap length c.append_parcel.ensures,
        length-append c.reserve.new.pending.items offers,
        length-offers c.args.shares c.args.share p.rank p.successors,
        ap length c.successors-successors.ensures,
        c.in_ok-reserve.ensures.ok.0,
      ),
    )

pub returns-clause-ok : goal.returns-clause-ok
returns-clause-ok g c =
    let p = c.args.parcel.now in let a = c.self.inside in
    let es = c.reserve.new.table.entries in let waits = c.reserve.new.pending.items in
    ap (found_view a.boxes a.squares a.start es) c.append_parcel.ensures
    ∙ offers_appended a.boxes a.squares a.start c.args.shares c.args.share p.rank es waits p.successors c.args.self.now
    (c.reserve.ensures.same a.boxes a.squares ∙ c.self.view_is)
