-- Believed: What is said of lists of anything: whether some or every element passes a test or has a property, what is left without some, one written
-- over another; and of lists of numbers: whether they are distinct, whether two lists are the same, and numbers counted up.
use Rattle.std.specs.Prelude.{Bool, true, false, ◌&&◌, ◌||◌, not, cond, List, [], ◌∷◌, ◌++◌, ℕ, zero, suc, ◌+◌, eqb, length, take, drop}

module _ {A : Type 0} where
  -- whether some element passes the test
  abbrev pub any : (A → Bool) → List A → Bool
  any p [] = false
  any p (a ∷ l) = p a || any p l

  -- whether every element passes the test
  abbrev pub every : (A → Bool) → List A → Bool
  every p [] = true
  every p (a ∷ l) = p a && every p l

  -- F holds of each element and the elements behind it
  abbrev pub Each : (List A → A → Type 0) → List A → Type 0
  Each F [] = Unit {0}
  Each F (c ∷ L) = F L c × Each F L

  -- Q holds of each element
  abbrev pub All : (A → Type 0) → List A → Type 0
  All Q L = Each (λ M c. Q c) L

  -- `t` written over `old` from `at` on
  unfoldable pub splice : ℕ → List A → List A → List A
  splice at t old = take at old ++ (t ++ drop (at + length t) old)

  -- what is left without the elements that the test takes, in their order
  unfoldable pub dropping : (List A → A → Bool) → List A → List A
  dropping t [] = []
  dropping t (c ∷ L) = let rest = dropping t L in cond (t L c) rest (c ∷ rest)

  -- the elements that pass a test, in their order
  abbrev pub filter : (A → Bool) → List A → List A
  filter p L = dropping (λ M c. not (p c)) L

-- all of some tests
abbrev pub ands : List Bool → Bool
ands [] = true
ands (b ∷ l) = b && ands l

-- no number stands twice
unfoldable pub distinct : List ℕ → Bool
distinct [] = true
distinct (x ∷ l) = not (any (eqb x) l) && distinct l

-- whether two lists, of bytes for example, are the same
unfoldable pub same : List ℕ → List ℕ → Bool
same [] [] = true
same [] (c ∷ q) = false
same (b ∷ p) [] = false
same (b ∷ p) (c ∷ q) = eqb b c && same p q

-- the n numbers from i on
abbrev pub counted : ℕ → ℕ → List ℕ
counted i zero = []
counted i (suc n) = i ∷ counted (suc i) n
