-- The books that are lent, and those that come back.
use Rattle.std.proofs.Common.{◌≡◌, ◌+◌, ℕ, List, Some, get_or, sym, ap, subst, ◌∙◌, arith}
use Rattle.std.proofs.lemmas.Option.{same_Some, slice_get-get_or, slice_get_within}
use Rattle.std.specs.Prelude.{slice_get}
use Rattle.layers.specs.LayerView.{LayerView}
use Rattle.layers.specs.BookView.{BookView}
use Rattle.layers.specs.Books.{MayBegin}
use Rattle.solo.specs.inside.Iterations.{AreDealt, AreWorkingOn, HaveBegun, IsDealtBook}
use Rattle.solo.specs.inside.Searched.{SearchView}
use Rattle.crew.specs.declared.config.Config.{Config}
use Rattle.crew.specs.Lending.{ComeBack}
use Rattle.crew.specs.inside.Known.{AreOf}

-- books that have begun a layer are of its level
pub begun_of : (before after : List BookView) (layer : LayerView) (ranks : ℕ) → ((i : ℕ) (v : BookView) → slice_get before i ≡ Some v → MayBegin v layer) →
    HaveBegun before ranks after → AreOf layer.level after
begun_of before after layer ranks may begun i v at =
    let u = get_or before i v in
    let there : slice_get before i ≡ Some u = slice_get-get_or before i v (omega (arith, slice_get_within after i v at, begun.0)) in
    let (w, is, e) = begun.1 i u there in
    ap (λ (b : BookView). b.level) (same_Some v w (sym at ∙ is) ∙ e) ∙ sym (may i u there).0

-- they are all the shares of the search's level, at work on the layer
pub come_dealt : (config : Config) (s : SearchView) (layer : LayerView) (books : List BookView) → layer.level ≡ s.problem → s.limit ≡ config.limit →
    ComeBack config layer books → AreDealt s.problem s.limit (config.workers + 1) config.locks books × AreWorkingOn layer books
come_dealt config s layer books level limit come = (
  record {
    all = come.all;
    each = λ i v at. subst (λ t. IsDealtBook t s.limit (config.workers + 1) config.locks i v) level
        (subst (λ l. IsDealtBook layer.level l (config.workers + 1) config.locks i v) (sym limit) (come.each i v at).0);
  },
  λ i v at. (come.each i v at).1,
)
