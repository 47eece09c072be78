-- The versions of a sound register, and (d) in each of them. Assumes nothing.
use Rattle.std.proofs.Common.{◌≡◌, true, false, ◌⊎◌, inl, inr, List, ◌∷◌, ℕ, suc, ◌-◌, ◌≤◌, arith, eqb-true, leb-true, ltb-true, le-leb, lt-ltb, eqb, leb, ltb, length}
use borrow.Author.Tests.{eqb-false}
use Rattle.lists.specs.Tests.{cases, iff_same}
use Rattle.register.specs.Limits.{hop_limit, left_limit, version_one, version_two, tells_left}
use Rattle.register.specs.declared.Claim.{Claim}
use Rattle.register.specs.declared.Register.{Register}
use Rattle.soundness_rules.specs.Sound.{fewer_left, sound}
use Rattle.soundness_rules.proofs.Laws.{ranged_least, ranged_greatest}
use Rattle.soundness_rules.proofs.Registers.{sound_out}

pub sound_version : (r : Register) → sound r ≡ true → (r.version ≡ version_one) ⊎ (r.version ≡ version_two)
sound_version r h =
    let told = (sound_out r h).version in
    let least : version_one ≤ r.version = ranged_least version_one version_two r.version told in
    let greatest : r.version ≤ version_two = ranged_greatest version_one version_two r.version told in
    cases (eqb r.version version_one) (λ e. inl (eqb-true r.version version_one e))
    (λ e. let other : (r.version ≡ version_one → ⊥) = eqb-false r.version version_one e in inr (omega (arith, least, greatest, other)))

-- a number of hands left falls by one where there is one left
falls : (n : ℕ) → ltb (left_limit - (suc n)) (left_limit - n) ≡ leb (suc n) hop_limit
falls n = iff_same _ _
    (λ h. let fell = ltb-true (left_limit - (suc n)) (left_limit - n) h in le-leb (suc n) hop_limit (omega (arith, fell)))
    (λ h. let few = leb-true (suc n) hop_limit h in lt-ltb (left_limit - (suc n)) (left_limit - n) (omega (arith, few)))

pub fewer_hops : (version : ℕ) → tells_left version ≡ false → (p : Claim) (higher : List Claim) (c : Claim)
    → fewer_left version p higher c ≡ leb (length (p ∷ higher)) hop_limit
fewer_hops version untold p higher c = rw untold (falls (length higher))

pub fewer_told : (version : ℕ) → tells_left version ≡ true → (p : Claim) (higher : List Claim) (c : Claim) → fewer_left version p higher c ≡ ltb c.left p.left
fewer_told version told p higher c = rw told
