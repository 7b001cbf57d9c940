-- What is true of the boards of a collection and of their names.
use Rattle.std.proofs.Common.{◌≡◌, ℕ, suc, ◌+◌, Bool, true, false, cond, ◌==◌, nat_eq, List, [], ◌∷◌, ◌++◌, length}
use Rattle.std.proofs.Common.{drop, map, flat_map, Option, Some, None, unwrap_or, refl, sym, subst}
use Rattle.std.specs.Prelude.{⊤, codes}
use Rattle.std.specs.Option.{option_or}
use Rattle.std.specs.List.{All, AllByRecursion, slice_split, onto_first, starts_with}
use Rattle.std.proofs.lemmas.Bool.{cond_both}
use Rattle.std.proofs.lemmas.List.Elements.{All-drop, All-take, All-from_recursion, recursion_from_All}
use Rattle.grid.specs.declared.cell.Cell.{Cell}
use Rattle.grid.specs.declared.cell.Cell.TheVariants.{Wall}
use Rattle.grid.specs.Board.{Board}
use Rattle.xsb.specs.Boards.{before_rest, cut_end, board_of}
use Rattle.xsb.specs.Collection.{Found, Part, IsPart, IsFoundBoard, AreFound, IsCollection}
use Rattle.xsb.specs.Lines.{without_last, without_last_empty, without_mark, lines_of_text}
use Rattle.xsb.specs.Names.{after_prefix, first_some, last_some, cut_start, is_blank, trimmed, name_of}
use Rattle.xsb.specs.inside.Bytes.{line_feed, carriage_return}
use Rattle.xsb.proofs.CellsByReaders.{take-cut_end}
use Rattle.xsb.proofs.ReadAgain.{NoFeed, cut-twice}
use Rattle.xsb.proofs.Walls.{SomeHas, wall-lines}

-- a list begins with neither a space nor a tab
abbrev pub BeginsOther : List ℕ → Type 0
BeginsOther [] = ⊤
BeginsOther (b ∷ bytes) = is_blank b ≡ false

-- a board with its name, as they are read: nothing can be cut off the name, and rows with a wall make the board
pub record IsAsRead (name : List ℕ) (board : Board) : Type 0 where
  pub feed : NoFeed name
  pub start : BeginsOther name
  pub end : cut_end is_blank name ≡ name
  pub rows : List (List Cell)
  pub made : board ≡ board_of rows
  pub wall : SomeHas Wall rows

-- ---- bytes that are left

abbrev Other : ℕ → Type 0
Other b = (b == line_feed) ≡ false

-- a part of a list without a line feed has none
feed-drop : (n : ℕ) (bytes : List ℕ) → NoFeed bytes → NoFeed (drop n bytes)
feed-drop n bytes none =
    recursion_from_All Other (drop n bytes) (All-drop Other n bytes (All-from_recursion Other bytes none))

feed-last : (c : ℕ) (bytes : List ℕ) → NoFeed bytes → NoFeed (without_last c bytes)
feed-last c [] none = tt
feed-last c (b ∷ []) none = cond_both (b == c) [] (b ∷ []) NoFeed (λ e. tt) (λ e. none)
feed-last c (b ∷ d ∷ bytes) none = (none.0, feed-last c (d ∷ bytes) none.1)

feed-start : (bytes : List ℕ) → NoFeed bytes → NoFeed (cut_start is_blank bytes)
feed-start [] none = tt
feed-start (b ∷ bytes) none =
    cond_both (is_blank b) (cut_start is_blank bytes) (b ∷ bytes) NoFeed (λ e. feed-start bytes none.1) (λ e. none)

feed-end : (bytes : List ℕ) → NoFeed bytes → NoFeed (cut_end is_blank bytes)
feed-end bytes none =
    let kept = cut_end is_blank bytes in
    recursion_from_All Other kept (subst (All Other) (take-cut_end is_blank bytes)
    (All-take Other (length kept) bytes (All-from_recursion Other bytes none)))

all-split : {A : Type 0} (P : A → Type 0) (xs ys : List A) → AllByRecursion P (xs ++ ys)
    → AllByRecursion P xs × AllByRecursion P ys
all-split P [] ys all = (tt, all)
all-split P (x ∷ xs) ys all = let rest = all-split P xs ys all.1 in ((all.0, rest.0), rest.1)

-- ---- lines

-- no line of a list has a line feed
abbrev pub NoFeeds : List (List ℕ) → Type 0
NoFeeds lines = AllByRecursion NoFeed lines

feeds-cons : (t : Bool) (b : ℕ) (parts : List (List ℕ)) → (b == line_feed) ≡ t → NoFeeds parts
    → NoFeeds (cond t ([] ∷ parts) (onto_first b parts))
feeds-cons true b parts e none = (tt, none)
feeds-cons false b [] e none = ((e, tt), tt)
feeds-cons false b (part ∷ parts) e none = ((e, none.0), none.1)

feeds-split : (bytes : List ℕ) → NoFeeds (slice_split (λ b. b == line_feed) bytes)
feeds-split [] = (tt, tt)
feeds-split (b ∷ bytes) =
    feeds-cons (b == line_feed) b (slice_split (λ b. b == line_feed) bytes) refl (feeds-split bytes)

feeds-lines : (parts : List (List ℕ)) → NoFeeds parts
    → NoFeeds (map (without_last carriage_return) (without_last_empty parts))
feeds-lines [] none = tt
feeds-lines ([] ∷ []) none = tt
feeds-lines ((b ∷ part) ∷ []) none = (feed-last carriage_return (b ∷ part) none.0, tt)
feeds-lines ([] ∷ next ∷ parts) none = (tt, feeds-lines (next ∷ parts) none.1)
feeds-lines ((b ∷ part) ∷ next ∷ parts) none =
    (feed-last carriage_return (b ∷ part) none.0, feeds-lines (next ∷ parts) none.1)

-- no line of a text has a line feed
feeds-text : (bytes : List ℕ) → NoFeeds (lines_of_text bytes)
unfolding lines_of_text
feeds-text bytes =
    feeds-lines (slice_split (λ b. b == line_feed) (without_mark bytes)) (feeds-split (without_mark bytes))

-- ---- names

-- no byte of the list, if there is one, is a line feed
abbrev NoFeedIn : Option (List ℕ) → Type 0
NoFeedIn name = NoFeed (unwrap_or name [])

feeds-or : (one two : Option (List ℕ)) → NoFeedIn one → NoFeedIn two → NoFeedIn (option_or one two)
feeds-or None two a b = b
feeds-or (Some name) two a b = a

feeds-prefix : (prefix bytes : List ℕ) → NoFeed bytes → NoFeedIn (after_prefix prefix bytes)
feeds-prefix prefix bytes none =
    let rest = drop (length prefix) bytes in
    cond_both (starts_with nat_eq bytes prefix) (Some rest) None NoFeedIn
    (λ e. feed-drop (length prefix) bytes none) (λ e. tt)

feeds-last : (prefix : List ℕ) (lines : List (List ℕ)) → NoFeeds lines
    → NoFeedIn (last_some (after_prefix prefix) lines)
feeds-last prefix [] none = tt
feeds-last prefix (line ∷ lines) none =
    feeds-or (last_some (after_prefix prefix) lines) (after_prefix prefix line) (feeds-last prefix lines none.1)
    (feeds-prefix prefix line none.0)

feeds-first : (prefix : List ℕ) (lines : List (List ℕ)) → NoFeeds lines
    → NoFeedIn (first_some (after_prefix prefix) lines)
feeds-first prefix [] none = tt
feeds-first prefix (line ∷ lines) none =
    feeds-or (after_prefix prefix line) (first_some (after_prefix prefix) lines) (feeds-prefix prefix line none.0)
    (feeds-first prefix lines none.1)

trimmed-cons : (b : ℕ) (bytes : List ℕ) (t : Bool) → is_blank b ≡ t → BeginsOther (trimmed bytes)
    → BeginsOther (cut_end is_blank (cond t (cut_start is_blank bytes) (b ∷ bytes)))
trimmed-cons b bytes true e rest = rest
trimmed-cons b bytes false e rest =
    subst (λ t. BeginsOther (before_rest t b (cut_end is_blank bytes))) (sym e) e

trimmed-start : (bytes : List ℕ) → BeginsOther (trimmed bytes)
trimmed-start [] = tt
trimmed-start (b ∷ bytes) = trimmed-cons b bytes (is_blank b) refl (trimmed-start bytes)

-- ---- boards

read-part : (line : ℕ) (before : List (List ℕ)) (part : Part) (found : Found) → NoFeeds before → NoFeeds part.gap
    → IsPart part → IsFoundBoard line before part found → IsAsRead found.name found.board
unfolding name_of
read-part line before part found none after is here =
    let text = unwrap_or (option_or (last_some (after_prefix (codes ";")) before)
    (first_some (after_prefix (codes "Title:")) part.gap)) [] in
    let told : NoFeed text = feeds-or (last_some (after_prefix (codes ";")) before)
    (first_some (after_prefix (codes "Title:")) part.gap)
    (feeds-last (codes ";") before none) (feeds-first (codes "Title:") part.gap after) in
    record {
      feed = subst NoFeed (sym here.name) (feed-end (cut_start is_blank text) (feed-start text told));
      start = subst BeginsOther (sym here.name) (trimmed-start text);
      end = subst (λ name. cut_end is_blank name ≡ name) (sym here.name) (cut-twice is_blank (cut_start is_blank text));
      rows = flat_map (λ r. r) here.board.0;
      made = here.board.2;
      wall = wall-lines part.board here.board.0 is.some here.board.1;
    }

read-parts : (line : ℕ) (before : List (List ℕ)) (parts : List Part) (founds : List Found) → NoFeeds before
    → NoFeeds (flat_map (λ part. part.board ++ part.gap) parts) → AllByRecursion IsPart parts
    → AreFound line before parts founds → AllByRecursion (λ found. IsAsRead found.name found.board) founds
read-parts line before [] [] none others are found = tt
read-parts line before [] (f ∷ founds) none others are found = absurd found
read-parts line before (part ∷ parts) [] none others are found = absurd found
read-parts line before (part ∷ parts) (f ∷ founds) none others are found =
    let both = all-split NoFeed (part.board ++ part.gap) (flat_map (λ part. part.board ++ part.gap) parts) others in
    let after = (all-split NoFeed part.board part.gap both.0).1 in (
      read-part line before part f none after are.0 found.0,
      read-parts (line + length (part.board ++ part.gap)) part.gap parts founds after both.1 are.1 found.1,
    )

pub as-read : (bytes : List ℕ) (founds : List Found) → IsCollection bytes founds
    → AllByRecursion (λ found. IsAsRead found.name found.board) founds
unfolding IsCollection
as-read bytes founds is =
    let none = all-split NoFeed is.0 (flat_map (λ part. part.board ++ part.gap) is.1)
    (subst NoFeeds is.2.whole (feeds-text bytes)) in
    read-parts (suc (length is.0)) is.0 is.1 founds none.0 none.1 is.2.boards is.3
