-- What contracts see of found and visited positions, for each width of keys.
use Rattle.store.specs.declared.found.Tables.{Tables}
use Rattle.store.specs.declared.found.Tables.TheVariants.{NarrowLow, MiddleLow, HalfLow, WideLow, BroadLow, WidestLow}
use Rattle.store.specs.declared.found.Tables.TheVariants.{Narrow, Middle, Half, Wide, Broad}
use Rattle.store.specs.declared.found.Tables.TheVariants.{Widest}
use Rattle.store.specs.declared.visited.AnyLabels.{AnyLabels}
use Rattle.store.specs.declared.visited.AnyLabels.TheVariants as any
use Rattle.store.specs.FoundView.{FoundView}
use Rattle.store.specs.Visited.{VisitedView}

abbrev pub tables_view : Tables → FoundView
tables_view (NarrowLow v) = v
tables_view (MiddleLow v) = v
tables_view (HalfLow v) = v
tables_view (WideLow v) = v
tables_view (BroadLow v) = v
tables_view (WidestLow v) = v
tables_view (Narrow v) = v
tables_view (Middle v) = v
tables_view (Half v) = v
tables_view (Wide v) = v
tables_view (Broad v) = v
tables_view (Widest v) = v

abbrev pub labels_view : AnyLabels → VisitedView
labels_view (any.NarrowLow v) = v
labels_view (any.MiddleLow v) = v
labels_view (any.HalfLow v) = v
labels_view (any.WideLow v) = v
labels_view (any.BroadLow v) = v
labels_view (any.WidestLow v) = v
labels_view (any.Narrow v) = v
labels_view (any.Middle v) = v
labels_view (any.Half v) = v
labels_view (any.Wide v) = v
labels_view (any.Broad v) = v
labels_view (any.Widest v) = v
