-- Texts, that is the given path and the bodies of symbolic links (RULES 8): their components, and the checks of the given path (RULES 7.3).
use Rattle.std.specs.Prelude.{ℕ, ◌+◌, Bool, true, false, cond, not, ◌&&◌, List, [], ◌∷◌, eqb, ltb, length, Option, None}
use Rattle.model.specs.Bytes.{contains}
use Rattle.model.specs.Answers.{refuse_if}
use Rattle.model.specs.declared.Refusal.{Refusal}
use Rattle.model.specs.declared.Errno.TheVariants.{Einval, Enametoolong, Enoent}

-- "The next name comes either from the path or from a link body, and the name handed on is a part of the caller's own bytes."
-- (RULES 8.5): a component's bytes, the text that they are a part of (65,535 for the given path, else the link's node), and where in it they start
pub record Component : Type 0 where
  pub bytes : List ℕ
  pub text : ℕ
  pub start : ℕ

abbrev pub given_path : ℕ
given_path = 65535

-- the byte "/"
abbrev pub is_slash : ℕ → Bool
is_slash b = eqb b 47

-- the bytes before the first slash
unfoldable pub up_to_slash : List ℕ → List ℕ
up_to_slash [] = []
up_to_slash (b ∷ s) = cond (is_slash b) [] (b ∷ up_to_slash s)

-- an element in front of a list where the test holds
abbrev pub cons_if {ℓ} : {A : Type ℓ} → Bool → A → List A → List A
cons_if true a l = a ∷ l
cons_if false a l = l

-- "Slashes part components; repeats count as one." (RULES 8.2): a component starts at each byte that is no slash and stands first or after a
-- slash. `s` is what the text holds from `at` on, `fresh` that nothing or a slash stands before it.
unfoldable pub components_from : ℕ → ℕ → Bool → List ℕ → List Component
components_from text at fresh [] = []
components_from text at fresh (b ∷ s) =
    cons_if (fresh && not (is_slash b)) (record { bytes = up_to_slash (b ∷ s); text = text; start = at })
    (components_from text (at + 1) (is_slash b) s)

-- all components of a text
unfoldable pub components : ℕ → List ℕ → List Component
components text s = components_from text 0 true s

-- a text that starts with "/" (RULES 8.4)
unfoldable pub absolute : List ℕ → Bool
absolute [] = false
absolute (b ∷ s) = is_slash b

-- a text that ends in "/" (RULES 8.4)
unfoldable pub ends_in_slash : List ℕ → Bool
ends_in_slash [] = false
ends_in_slash (b ∷ []) = is_slash b
ends_in_slash (b ∷ (c ∷ s)) = ends_in_slash (c ∷ s)

-- "Order: .. path too long, path empty, zero byte, ..": "path over 4,095 bytes", "empty path", "zero byte in the path (house)" (RULES 7.3)
unfoldable pub path_refused : List ℕ → Option Refusal
path_refused path =
    refuse_if (ltb 4095 (length path)) Enametoolong
    (refuse_if (eqb (length path) 0) Enoent
    (refuse_if (contains 0 path) Einval None))
