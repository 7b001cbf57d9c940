-- Names: the last comment and the first title, line by line.
use Rattle.std.proofs.Common.{◌≡◌, ℕ, List, [], ◌∷◌, ◌++◌, Option, Some, None, option_copied, unwrap_or, Bor, refl, sym, ap, ◌∙◌}
use Rattle.std.specs.Option.{option_or}
use Rattle.xsb.specs.declared.names.Gap.{Gap}
use Rattle.xsb.specs.Names.{first_some, last_some, trimmed, name_of}
use Rattle.xsb.specs.inside.Gaps.{IsGap, comment_of, title_of}

or-none : {A : Type 0} (o : Option A) → option_or o None ≡ o
or-none None = refl
or-none (Some x) = refl

or-assoc : {A : Type 0} (o p q : Option A) → option_or (option_or o p) q ≡ option_or o (option_or p q)
or-assoc None p q = refl
or-assoc (Some x) p q = refl

pub last_some-last : {A B : Type 0} (f : A → Option B) (xs : List A) (x : A) → last_some f (xs ++ x ∷ []) ≡ option_or (f x) (last_some f xs)
last_some-last f [] x = sym (or-none (f x))
last_some-last f (y ∷ xs) x = ap (λ o. option_or o (f y)) (last_some-last f xs x) ∙ or-assoc (f x) (last_some f xs) (f y)

first_some-last : {A B : Type 0} (f : A → Option B) (xs : List A) (x : A) → first_some f (xs ++ x ∷ []) ≡ option_or (first_some f xs) (f x)
first_some-last f [] x = or-none (f x)
first_some-last f (y ∷ xs) x = ap (λ o. option_or (f y) o) (first_some-last f xs x) ∙ sym (or-assoc (f y) (first_some f xs) (f x))

copied-or : (o p : Option (Bor (List ℕ))) → option_copied (option_or o p) ≡ option_or (option_copied o) (option_copied p)
copied-or None p = refl
copied-or (Some x) p = refl

unwrap_or-copied : (o : Option (Bor (List ℕ))) (d : Bor (List ℕ)) → (unwrap_or o d).now ≡ unwrap_or (option_copied o) d.now
unwrap_or-copied None d = refl
unwrap_or-copied (Some x) d = refl

pub IsGap-more : (gap : Gap) (comment title fresh_comment fresh_title : Option (Bor (List ℕ))) (line : List ℕ) → option_copied fresh_comment ≡ comment_of line →
    option_copied fresh_title ≡ title_of line →
    comment ≡ option_or fresh_comment gap.comment → title ≡ option_or gap.title fresh_title → (lines : List (List ℕ)) → IsGap gap lines →
    IsGap (record { comment = comment; title = title }) (lines ++ line ∷ [])
IsGap-more gap comment title fresh_comment fresh_title line a b c d lines is = record {
  last_comment = ap option_copied c ∙ copied-or fresh_comment gap.comment ∙ ap (λ o. option_or o (option_copied gap.comment)) a
      ∙ ap (option_or (comment_of line)) is.last_comment ∙ sym (last_some-last comment_of lines line);
  first_title = ap option_copied d ∙ copied-or gap.title fresh_title ∙ ap (λ o. option_or o (option_copied fresh_title)) is.first_title
      ∙ ap (option_or (first_some title_of lines)) b ∙ sym (first_some-last title_of lines line);
}

pub name_of-gaps : (before after : Gap) (o : Option (Bor (List ℕ))) (d named : Bor (List ℕ)) (result : List ℕ) → o ≡ option_or before.comment after.title →
    named ≡ unwrap_or o d → d.now ≡ [] → result ≡ trimmed named.now →
    (before_lines after_lines : List (List ℕ)) → IsGap before before_lines → IsGap after after_lines → result ≡ name_of before_lines after_lines
unfolding name_of
name_of-gaps before after o d named result e f g h before_lines after_lines b a =
    h ∙ ap (λ n. trimmed n.now) f ∙ ap trimmed (unwrap_or-copied o d ∙ ap (unwrap_or (option_copied o)) g
    ∙ ap (λ p. unwrap_or p []) (ap option_copied e ∙ copied-or before.comment after.title ∙ ap (λ p. option_or p (option_copied after.title)) b.last_comment ∙
    ap (option_or (last_some comment_of before_lines)) a.first_title))
