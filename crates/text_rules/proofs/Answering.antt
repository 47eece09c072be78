-- What an accepted reading and a refused one say of the state that the reading ended in. Assumes nothing.
use Rattle.std.proofs.Common.{Err, Ok, ℕ, ◌≡◌, refl, Bool, true, false, cond, List, arith}
use Rattle.register.specs.Register.{empty_register}
use Rattle.register.specs.declared.Register.{Register}
use Rattle.soundness_rules.specs.Sound.{sound}
use Rattle.refusals.proofs.Laws.{outcome_clash}
use Rattle.refusals.specs.declared.Refusal.{Refusal}
use Rattle.refusals.specs.declared.Refusal.TheVariants.{Unsound}
use Rattle.actions.specs.declared.Action.{Action}
use Rattle.actions.specs.Actions.{no_action}
use Rattle.lines.specs.Reading.{State, going, failed}
use Rattle.text_rules.specs.Registers.{register_ending}
use Rattle.text_rules.specs.Actions.{action_ending}
use Rattle.text_rules.specs.declared.RegisterRead.{RegisterRead}

-- an accepted answer: the reading goes on, the register is sound, and is the one answered
pub record Accepting (r : Register) (st : State) : Type 0 where
  pub rest : List ℕ
  pub at : ℕ
  pub goes : st ≡ going rest at
  pub fine : sound r ≡ true
  pub same : (register_ending r st).register ≡ r

-- the answer for a reading that goes on, by the judgement of the register
abbrev pub judged : Register → Bool → RegisterRead
judged r b = cond b (record { register = r; outcome = Ok tt; line = 0 }) (record { register = empty_register; outcome = Err Unsound; line = 0 })

pub accepted_answer : (r : Register) (st : State) → (register_ending r st).outcome ≡ Ok tt → Accepting r st
accepted_answer r (failed why l) h = outcome_clash h
accepted_answer r (going t l) h = let told = go (sound r) refl h in record { rest = t; at = l; goes = refl; fine = told.0; same = told.1 }
  where
    go : (b : Bool) → sound r ≡ b → (judged r b).outcome ≡ Ok tt → (sound r ≡ true) × ((judged r (sound r)).register ≡ r)
    go true e k = (e, rw e)
    go false e k = outcome_clash k

-- a refused answer holds the empty register
pub refused_answer : (r : Register) (st : State) (why : Refusal) → (register_ending r st).outcome ≡ Err why → (register_ending r st).register ≡ empty_register
refused_answer r (failed code l) why h = refl
refused_answer r (going t l) why h = go (sound r) h
  where
    go : (b : Bool) → (judged r b).outcome ≡ Err why → (judged r b).register ≡ empty_register
    go true k = let never : ◌≡◌ {A = ℕ} 0 1 = cc in absurd (omega arith)
    go false k = refl

-- the answer for a reading that goes on, of a sound register
pub sound_answer : (r : Register) (t : List ℕ) (l : ℕ) → sound r ≡ true → register_ending r (going t l) ≡ record { register = r; outcome = Ok tt; line = 0 }
sound_answer r t l h = rw h

-- the same of an action
pub record AcceptingAction (a : Action) (st : State) : Type 0 where
  pub rest : List ℕ
  pub at : ℕ
  pub goes : st ≡ going rest at
  pub same : (action_ending a st).action ≡ a

pub accepted_action : (a : Action) (st : State) → (action_ending a st).outcome ≡ Ok tt → AcceptingAction a st
accepted_action a (failed why l) h = outcome_clash h
accepted_action a (going t l) h = record { rest = t; at = l; goes = refl; same = refl }

pub refused_action : (a : Action) (st : State) (why : Refusal) → (action_ending a st).outcome ≡ Err why → (action_ending a st).action ≡ no_action
refused_action a (failed code l) why h = refl
refused_action a (going t l) why h = let never : ◌≡◌ {A = ℕ} 0 1 = cc in absurd (omega arith)
