use Rattle.std.proofs.Common.{◌≡◌, ◌++◌, ◌∷◌, [], ◌<◌, ◌+◌, Some, length, drop, take, is_some, true≢false, sym, ap, ◌∙◌, add-one, arith}
use Rattle.std.specs.Prelude.{slice_get}
use Rattle.std.specs.Option.{option_to_list}
use Rattle.store.specs.Entries.{Closed, places_of, origins_of}
use Rattle.store.specs.inside.Copies.{squares_of}
use Rattle.store.proofs.lemmas.Copies.{squares-push, copied_more, places-push, origins-push}
use Rattle.store.proofs.copying.copy_from.Goals.{in-Some+in_ok-copy_entry, in_default}
use Rattle.store.proofs.copying.copy_from.Goals as goal

pub loop-index-preserved : goal.loop-index-preserved
loop-index-preserved g c =
    let es = c.args.table.now.entries in let index = c.loop-index.index in let from = c.args.from in
    let lt : index < length es = omega (arith, c.requires.within) in
    elim c.match-get_index.branch [
      | in-Some+in_ok-copy_entry w ↦ (let e : Closed = (w.in-Some.key.now, w.in-Some.origin.now) in
          let at : slice_get es index ≡ Some e = sym w.in-Some.ensures.entry in
          let more = copied_more es from index e (omega arith) at in
          let old = drop from (take index es) in
          let later : drop from (take (index + 1) es) ≡ old ++ e ∷ [] = ap (λ k. drop from (take k es)) (add-one index) ∙ more in (
            ap (λ v. v.items) w.squares-is ∙ w.in_ok-copy_entry.ensures.0 ∙ ap (λ xs. xs ++ (e.0.boxes ++ e.0.player ∷ [])) c.loop-index.invariant.0 ∙
                sym (squares-push (places_of old) e.0) ∙ ap squares_of (sym (places-push old e) ∙ ap places_of (sym later)),
            ap (λ v. v.items) w.origins-is ∙ w.in_ok-copy_entry.ensures.1 ∙ ap (λ xs. xs ++ option_to_list e.1) c.loop-index.invariant.1 ∙
                sym (origins-push old e) ∙ ap origins_of (sym later),
          ))
      | in_default w ↦ absurd (true≢false (sym (c.get_index.ensures.found.1 lt) ∙ ap is_some w.in_default.is))
    ]
