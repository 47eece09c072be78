-- Laws: What one thing more makes of things that are read and of texts, and how many things a section has: for the proofs of readers and writers that
-- go thing by thing. Assumes nothing.
use Rattle.std.specs.Prelude.{ℕ, zero, suc, ◌+◌, ◌≡◌, List, [], ◌∷◌, ◌++◌, length}
use Rattle.std.proofs.Common.{add-one}
use Rattle.std.proofs.Math.Path.{refl, ap}
use Rattle.lines.specs.Reading.{State, Read}
use Rattle.text_rules.specs.Records.{many, texts}

module _ {A : Type 0} (read : State → Read A) where
  pub many_none : (st : State) → many read 0 st ≡ record { value = []; state = st }
  unfolding many
  many_none st = refl

  -- the others, then the last thing
  many_last : (n : ℕ) (st : State) →
      many read (suc n) st ≡ record { value = (many read n st).value ++ ((read (many read n st).state).value ∷ []); state = (read (many read n st).state).state }
  unfolding many
  many_last zero st = refl
  many_last (suc n) st =
      ap (λ (r : Read (List A)). record { value = (read st).value ∷ r.value; state = r.state }) (many_last n (read st).state)

  pub many_next : (n : ℕ) (st : State) →
      many read (n + 1) st ≡ record { value = (many read n st).value ++ ((read (many read n st).state).value ∷ []); state = (read (many read n st).state).state }
  many_next n st = rw add-one (many_last n st)

  pub many_length : (n : ℕ) (st : State) → length (many read n st).value ≡ n
  unfolding many
  many_length zero st = refl
  many_length (suc n) st = ap suc (many_length n (read st).state)

module _ {A : Type 0} (text : A → List ℕ) where
  pub texts_none : texts text [] ≡ []
  unfolding texts
  texts_none = refl

  pub texts_first : (a : A) (things : List A) → texts text (a ∷ things) ≡ text a ++ texts text things
  unfolding texts
  texts_first a things = refl
