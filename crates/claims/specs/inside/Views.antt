-- Views as lists of hands, and how seats that are joined or split share them.
use Rattle.std.specs.Prelude.{ℕ, List, [], ◌∷◌, ◌++◌}
use Rattle.claims.specs.declared.views.Hand.{Hand}
use Rattle.claims.specs.declared.views.View.{View}
use Rattle.claims.specs.Hands.{empty_hand}

-- the first hand of a list
abbrev pub first_hand : List Hand → Hand
first_hand [] = empty_hand
first_hand (h ∷ hs) = h

-- all hands but the first
abbrev pub other_hands : List Hand → List Hand
other_hands [] = []
other_hands (h ∷ hs) = hs

-- the view of a seat with these hands
abbrev pub view_of : ℕ → List Hand → View
view_of len hands = record { len = len; hands = hands }

-- the view of a new drawer beside this one
abbrev pub beside : View → View
beside v = view_of v.len (empty_hand ∷ [])

-- the hands of both
abbrev pub joined : View → View → View
joined v w = view_of v.len (v.hands ++ w.hands)

-- what a seat that went into another leaves
abbrev pub spent_view : View
spent_view = view_of 0 []

-- the first hand alone
abbrev pub first_part : View → View
first_part v = view_of v.len (first_hand v.hands ∷ [])

-- the hands behind the first
abbrev pub other_part : View → View
other_part v = view_of v.len (other_hands v.hands)
