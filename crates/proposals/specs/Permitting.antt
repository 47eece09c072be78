-- Laws: When the gate permits the one-use action, part by part, and what carries a machine's owner from one register to another. Assumes nothing.
use Rattle.std.specs.Prelude.{◌≡◌, refl, Bool, true, false, not, ◌&&◌, [], ◌∷◌, ℕ, eqb}
use Rattle.std.proofs.Common.{ap, sym, ◌∙◌}
use Rattle.std.proofs.lemmas.Bool.{not-true}
use Rattle.lists.specs.Tests.{cases, clash}
use Rattle.lists.specs.Lists.{any, dropping}
use Rattle.lists.specs.Each.{none_weaken}
use Rattle.register.specs.Limits.{machine_kind}
use Rattle.register.specs.Register.{actors_of}
use Rattle.register.specs.declared.Register.{Register}
use Rattle.actions.specs.declared.Usage.{Usage}
use Rattle.actions.specs.declared.Decision.{Decision}
use Rattle.actions.specs.declared.Decision.TheVariants.{Permitted, Refused, Stopped}
use Rattle.gate_rules.specs.Gate.{covers, is_ownerless, owner_lacks, flags_set, gated}
use Rattle.gate_rules.specs.Authority.{Passed}
use Rattle.gate_rules.proofs.Laws.{permitted_out, permitted_in, use_violations_out, use_violations_in}
use Rattle.actions.specs.Actions.{one_use, is_permitted}
use Rattle.proposals.specs.Proposals.{permits}

permitted_told : (d : Decision) → is_permitted d ≡ true → d ≡ Permitted
permitted_told Permitted e = refl
permitted_told Refused e = clash false e refl
permitted_told (Stopped why) e = clash false e refl

-- what it is that the one-use action is permitted
pub record UsePermitted (r : Register) (x : ℕ) (u : Usage) (moment : ℕ) : Type 0 where
  pub passed : Passed r (one_use x u moment)
  pub owned : is_ownerless r x ≡ false
  pub covered : covers r moment x u ≡ true
  pub owner_covers : owner_lacks r moment x u ≡ false

pub permits_out : (r : Register) (x : ℕ) (u : Usage) (moment : ℕ) → permits r (one_use x u moment) ≡ true → UsePermitted r x u moment
unfolding permits
permits_out r x u moment h =
    let told = permitted_out r (one_use x u moment) (permitted_told (gated r (one_use x u moment)).decision h) in
    let clean = use_violations_out r moment x 0 (u ∷ []) told.clean.covered in
    record { passed = told.passed; owned = told.clean.owned; covered = clean.0.covered; owner_covers = clean.0.owner_covers }

pub flagless : flags_set 0 ≡ []
unfolding flags_set dropping
flagless = refl

pub permits_in : (r : Register) (x : ℕ) (u : Usage) (moment : ℕ) → UsePermitted r x u moment → permits r (one_use x u moment) ≡ true
unfolding permits
permits_in r x u moment h =
    ap is_permitted (permitted_in r (one_use x u moment) record {
      passed = h.passed;
      clean = record {
        flagless = flagless;
        owned = h.owned;
        ungoverning = λ e. refl;
        covered = use_violations_in r moment x 0 (u ∷ []) (record { covered = h.covered; owner_covers = h.owner_covers }, tt);
      };
    })

-- four tests, the last turned round
last_weakened : (a b c d e : Bool) → (d ≡ true → e ≡ true) → a && (b && (c && not e)) ≡ true → a && (b && (c && not d)) ≡ true
last_weakened true true true d e f h = cases d (λ k. clash e (f k) (not-true e h)) (λ k. rw k)
last_weakened true true false d e f h = h
last_weakened true false c d e f h = h
last_weakened false b c d e f h = h

-- an owner who covers in one register covers in another over the same actors, where whoever covers in the first covers in the second
pub lacks_carried : (r s : Register) (moment x : ℕ) (u : Usage) → r.actors ≡ s.actors
    → ((y : ℕ) → covers r moment y u ≡ true → covers s moment y u ≡ true) → owner_lacks r moment x u ≡ false → owner_lacks s moment x u ≡ false
unfolding owner_lacks
lacks_carried r s moment x u same carried h =
    none_weaken (λ a. eqb x a.id && (eqb machine_kind a.kind && (not (eqb a.owner 0) && not (covers s moment a.owner u))))
    (λ a. eqb x a.id && (eqb machine_kind a.kind && (not (eqb a.owner 0) && not (covers r moment a.owner u))))
    (λ a e. last_weakened (eqb x a.id) (eqb machine_kind a.kind) (not (eqb a.owner 0)) (covers r moment a.owner u) (covers s moment a.owner u)
    (carried a.owner) e)
    (actors_of s.actors)
    (ap (λ l. any (λ a. eqb x a.id && (eqb machine_kind a.kind && (not (eqb a.owner 0) && not (covers r moment a.owner u)))) (actors_of l)) (sym same) ∙ h)

-- ownership is the actors' alone
pub ownerless_carried : (r s : Register) (x : ℕ) → r.actors ≡ s.actors → is_ownerless r x ≡ is_ownerless s x
unfolding is_ownerless
ownerless_carried r s x same = ap (λ l. any (λ a. eqb x a.id && (eqb machine_kind a.kind && eqb a.owner 0)) (actors_of l)) same
