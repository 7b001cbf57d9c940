-- One level more is explained, or none is left.
use Rattle.std.proofs.Common.{rules, ℕ, List, [], true, sym, subst, arith}
use Rattle.xsb.specs.inside.Sources.{GivesSource}
use Rattle.sokopar.specs.Explaining.{Explains, none}
use Rattle.sokopar.proofs.Explanations.{explained-none, explained-more, explained-all, explained-report, source-of}
use Rattle.sokopar.proofs.explain.explain_in.Goals as goal

pub boards-init : goal.boards-init
boards-init c =
    explained-none c.args.bytes.now c.args.wanted c.in-Ok.collection _ _ c.in-Ok.ensures.begins c.in-Ok.ensures.bound c.in-Ok.ensures.at_line (record {
      text = subst (λ (t : List ℕ). Explains c.args.bytes.now c.args.wanted [] t true 0) (sym c.new-text.ensures) none;
      broken = c.broken_of-broken.ensures;
    })

pub put_next-requires : goal.put_next-requires
put_next-requires c =
    let so_far = c.boards.invariant in
    let founds = so_far.checked.so_far.founds in
    let next = subst (λ n. GivesSource c.args.bytes.now founds c.next_source.new.self n) c.in-Some.is
    (c.in_ok-source.ensures.next c.args.bytes.now founds so_far.checked.so_far.read so_far.at_line) in
    source-of c.args.bytes.now founds c.next_source.new.self c.in-Some.source next

pub boards-preserved : goal.boards-preserved
boards-preserved c =
    let so_far = c.boards.invariant in
    let founds = so_far.checked.so_far.founds in
    let next = subst (λ n. GivesSource c.args.bytes.now founds c.next_source.new.self n) c.in-Some.is
    (c.in_ok-source.ensures.next c.args.bytes.now founds so_far.checked.so_far.read so_far.at_line) in
    let count = so_far.checked.count in
    explained-more c.next_source.new.self c.in-Some.source c.put_next.new.page c.put_next.new.broken c.good_with-good.result
    so_far next (search rules) c.good_with-good.ensures
    (c.in_ok-put_next.ensures c.args.bytes.now next.0 so_far.checked.listing (omega (arith, count)) next.1 next.4 so_far.page)

pub returns : goal.returns
returns c =
    let so_far = c.boards.invariant in
    let founds = so_far.checked.so_far.founds in
    let all = subst (λ n. GivesSource c.args.bytes.now founds c.next_source.new.self n) c.in_default-2.is
    (c.in_ok-source.ensures.next c.args.bytes.now founds so_far.checked.so_far.read so_far.at_line) in
    let page = c.in_ok-put_gap.ensures c.args.bytes.now c.args.wanted so_far.checked.listing so_far.page in
    let lists = explained-all c.next_source.new.self so_far all in
    explained-report c.report_of.result c.args.bytes.now c.args.wanted so_far.checked.listing c.put_strange.new.page lists
    (c.in_ok-put_strange.ensures c.args.wanted so_far.checked.listing so_far.checked.count lists page.text)
    (c.report_of.ensures so_far.checked.listing so_far.checked.count so_far.checked.lawful)
