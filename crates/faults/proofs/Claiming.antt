-- Laws: Claims: each passes its tests exactly where the claims are sound, and the test that fails breaks the rule that it names. Assumes nothing.
use Rattle.std.proofs.Common.{◌≡◌, Bool, false, not, ◌&&◌, ◌||◌, cond, ℕ, eqb, leb, ltb, sym, ◌∙◌, List, [], ◌∷◌, ◌++◌, append_assoc}
use Rattle.std.proofs.Math.Path.{refl, ap}
use Rattle.std.proofs.Math.Bool.{true, and-false}
use mathlib.Core.List.{reverse-cons}
use Rattle.lists.specs.Tests.{cases, clash}
use Rattle.lists.specs.Lists.{every, All, dropping}
use Rattle.lists.specs.Each.{all_append, all_imp}
use Rattle.rights.specs.Rights.{delegating, has_right, has_rights, bars_machine}
use Rattle.register.specs.Limits.{claim_limit}
use Rattle.register.specs.Chain.{latest, above, circling}
use Rattle.register.specs.declared.Claim.{Claim}
use Rattle.soundness_rules.specs.Sound.{World, claim_fits, names_stand, root_kept, machine_may, drawn_from, fewer_left, over_chain, drawn, fresh, alone, over, acceptable, sound_claims}
use Rattle.soundness_rules.proofs.Places.{sound_claims_in, latest_acceptable, prefix_sound}
use Rattle.refusals.specs.Refusals.{Test}
use Rattle.refusals.specs.declared.Refusal.TheVariants.{NoParent, NotHeld, NoDelegate, RightLacking, WeightAbove, TooManyHops, Circle}
use Rattle.change_rules.specs.Changes.{world_tests, parent_tests}
use Rattle.faults.specs.Faults.{each_passes, higher_tests, claim_tests, claim_rule}
use Rattle.faults.proofs.Faulting.{passing_first, passing_rest}

-- tests 10 and 12 to 16 are (b), (d) and (e)
chain_all : (held on_same delegates contains weighs hops uncircled : Bool)
    → (held && on_same) && (delegates && (contains && (weighs && (hops && (uncircled && true)))))
    ≡ (held && (on_same && (delegates && (contains && (weighs && true))))) && (hops && (uncircled && true))
chain_all false on_same delegates contains weighs hops uncircled = refl
chain_all true false delegates contains weighs hops uncircled = refl
chain_all true true false contains weighs hops uncircled = refl
chain_all true true true false weighs hops uncircled = refl
chain_all true true true true false hops uncircled = refl
chain_all true true true true true hops uncircled = refl

-- the tests over a chain, one by one
pub higher_nil : (version : ℕ) (c : Claim) → higher_tests version [] c ≡ record { passed = false; refusal = NoParent } ∷ []
unfolding higher_tests parent_tests dropping
higher_nil version c = refl

pub higher_tests_lem : (version : ℕ) (p : Claim) (higher : List Claim) (c : Claim) → higher_tests version (p ∷ higher) c
    ≡ record { passed = eqb p.holder c.grantor && eqb p.resource c.resource; refusal = NotHeld }
    ∷ record { passed = has_right p.rights delegating; refusal = NoDelegate }
    ∷ record { passed = has_rights p.rights c.rights; refusal = RightLacking }
    ∷ record { passed = leb c.weight p.weight; refusal = WeightAbove }
    ∷ record { passed = fewer_left version p higher c; refusal = TooManyHops }
    ∷ record { passed = not (circling (λ d. d.grantor) (λ d. d.holder) (p ∷ higher) c.holder); refusal = Circle }
    ∷ []
unfolding higher_tests parent_tests dropping
higher_tests_lem version p higher c = refl

chain_asks : (version : ℕ) (H : List Claim) (c : Claim) → every (λ t. t.passed) (higher_tests version H c) ≡ over_chain version H c
unfolding over_chain drawn_from
chain_asks version [] c = rw (higher_nil version c)
chain_asks version (p ∷ higher) c =
    rw (higher_tests_lem version p higher c)
    (chain_all (eqb p.holder c.grantor) (eqb p.resource c.resource) (has_right p.rights delegating)
    (has_rights p.rights c.rights) (leb c.weight p.weight) (fewer_left version p higher c)
    (not (circling (λ d. d.grantor) (λ d. d.holder) (p ∷ higher) c.holder)))

root_asks : (root : Bool) (tests : List Test) (over : Bool) → every (λ t. t.passed) tests ≡ over
    → every (λ t. t.passed) (cond root [] tests) ≡ root || over
root_asks true tests over e = refl
root_asks false tests over e = e

claim_all : (f n u k m o b d : Bool)
    → f && (n && (u && (true && (k && (not (m && o) && (not (m && b) && d)))))) ≡ (f && (n && (k && ((not m || (not o && not b)) && true)))) && (u && d)
claim_all false n u k m o b d = refl
claim_all true false u k m o b d = refl
claim_all true true false false m o b d = refl
claim_all true true false true false o b d = refl
claim_all true true false true true true b d = refl
claim_all true true false true true false true d = refl
claim_all true true false true true false false d = refl
claim_all true true true false m o b d = refl
claim_all true true true true false o b d = refl
claim_all true true true true true true b d = refl
claim_all true true true true true false true d = refl
claim_all true true true true true false false d = refl

module _ (w : World) where
  -- a claim passes its tests exactly where it is acceptable behind the earlier ones
  pub claim_asks : (earlier : List Claim) (c : Claim) → every (λ t. t.passed) (claim_tests w earlier c) ≡ acceptable w earlier c
  unfolding claim_tests world_tests acceptable alone over drawn machine_may
  claim_asks earlier c =
      let rest = root_asks (eqb c.parent 0) (higher_tests w.version (above earlier c) c) (over_chain w.version (above earlier c) c) (chain_asks w.version (above earlier c) c) in
      ap (λ b. claim_fits w.version c && (names_stand w c && (fresh earlier c && (ltb 0 claim_limit && (root_kept w c && (not (w.machine c.grantor && w.ownerless c.grantor)
      && (not (w.machine c.grantor && bars_machine c.rights) && b))))))) rest
      ∙ claim_all (claim_fits w.version c) (names_stand w c) (fresh earlier c) (root_kept w c) (w.machine c.grantor) (w.ownerless c.grantor) (bars_machine c.rights)
      (eqb c.parent 0 || over_chain w.version (above earlier c) c)

  moved : (earlier : List Claim) (c : Claim) (rest : List Claim) → latest (c ∷ rest) ++ earlier ≡ latest rest ++ c ∷ earlier
  moved earlier c rest = rw (reverse-cons c rest) (append_assoc (latest rest) (c ∷ []) earlier)

  -- claims behind sound ones pass exactly where all are sound
  pub passing_sound : (earlier rest : List Claim) → sound_claims w earlier ≡ true → each_passes (claim_tests w) earlier rest ≡ true
      → sound_claims w (latest rest ++ earlier) ≡ true
  passing_sound earlier [] h k = h
  passing_sound earlier (c ∷ rest) h k =
      rw (moved earlier c rest) (passing_sound (c ∷ earlier) rest
      (sound_claims_in w c earlier (sym (claim_asks earlier c) ∙ passing_first (claim_tests w) earlier c rest k) h)
      (passing_rest (claim_tests w) earlier c rest k))

  pub sound_passing : (earlier rest : List Claim) → sound_claims w (latest rest ++ earlier) ≡ true → each_passes (claim_tests w) earlier rest ≡ true
  sound_passing earlier [] h = refl
  sound_passing earlier (c ∷ rest) h =
      let whole : sound_claims w (latest rest ++ c ∷ earlier) ≡ true = rw (moved earlier c rest) at h in
      rw (claim_asks earlier c, latest_acceptable w c earlier (prefix_sound w (latest rest) (c ∷ earlier) whole))
      (sound_passing (c ∷ earlier) rest whole)

  -- the rule that a failed test names is broken
  abbrev pub Named : List Claim → Claim → Test → Type 0
  Named earlier c t = t.passed ≡ false → claim_rule w t.refusal earlier c ≡ false

  machine_broken : (m o b : Bool) → not (m && o) ≡ false → not m || (not o && not b) ≡ false
  machine_broken false o b h = clash true refl h
  machine_broken true true b h = refl
  machine_broken true false b h = clash true refl h

  barred_broken : (m o b : Bool) → not (m && b) ≡ false → not m || (not o && not b) ≡ false
  barred_broken false o b h = clash true refl h
  barred_broken true true b h = refl
  barred_broken true false true h = refl
  barred_broken true false false h = clash true refl h

  world_breaks : (earlier : List Claim) (c : Claim) → All (λ t. Named earlier c t) (world_tests w earlier 0 c)
  unfolding world_tests machine_may
  world_breaks earlier c = (
    (λ e. e),
    (
      (λ e. e),
      (
        (λ e. clash true refl e),
        (
          (λ e. e),
          (
            machine_broken (w.machine c.grantor) (w.ownerless c.grantor) (bars_machine c.rights),
            (barred_broken (w.machine c.grantor) (w.ownerless c.grantor) (bars_machine c.rights), tt),
          ),
        ),
      ),
    ),
  )

  -- a chain test that fails breaks the chain
  chain_broken : (H : List Claim) (c : Claim) → All (λ t. t.passed ≡ false → over_chain w.version H c ≡ false) (higher_tests w.version H c)
  chain_broken H c =
      all_imp (λ t. t.passed ≡ false → every (λ t. t.passed) (higher_tests w.version H c) ≡ false) (λ t. t.passed ≡ false → over_chain w.version H c ≡ false)
      (λ t broken e. sym (chain_asks w.version H c) ∙ broken e) (higher_tests w.version H c) (fails_all (λ t. t.passed) (higher_tests w.version H c))
    where
      fails_all : {T : Type 0} (p : T → Bool) (l : List T) → All (λ t. p t ≡ false → every p l ≡ false) l
      fails_all p [] = tt
      fails_all p (t ∷ l) = (
        (λ e. rw e),
        all_imp (λ s. p s ≡ false → every p l ≡ false) (λ s. p s ≡ false → every p (t ∷ l) ≡ false)
            (λ s broken e. rw (broken e) (and-false (p t))) l (fails_all p l),
      )

  drawn_broken : (earlier : List Claim) (c : Claim) → eqb c.parent 0 ≡ false → over_chain w.version (above earlier c) c ≡ false → drawn w.version earlier c ≡ false
  unfolding drawn
  drawn_broken earlier c other e = rw (other, e)

  -- each of them names the chain
  chain_named : (earlier : List Claim) (c : Claim) (H : List Claim) → drawn w.version earlier c ≡ false → All (λ t. claim_rule w t.refusal earlier c ≡ false) (higher_tests w.version H c)
  chain_named earlier c [] k = rw (higher_nil w.version c) (k, tt)
  chain_named earlier c (p ∷ higher) k = rw (higher_tests_lem w.version p higher c) (k, (k, (k, (k, (k, (k, tt))))))

  chain_breaks : (earlier : List Claim) (c : Claim) (H : List Claim) → (over_chain w.version H c ≡ false → drawn w.version earlier c ≡ false)
      → All (λ t. Named earlier c t) (higher_tests w.version H c)
  chain_breaks earlier c H k =
      cases (over_chain w.version H c)
      (λ fine. all_imp (λ t. t.passed ≡ false → over_chain w.version H c ≡ false) (λ t. Named earlier c t)
      (λ t broken e. clash (over_chain w.version H c) fine (broken e)) (higher_tests w.version H c) (chain_broken H c))
      (λ broken. all_imp (λ t. claim_rule w t.refusal earlier c ≡ false) (λ t. Named earlier c t) (λ t named e. named) (higher_tests w.version H c) (chain_named earlier c H (k broken)))

  parent_breaks : (earlier : List Claim) (c : Claim) → All (λ t. Named earlier c t) (cond (eqb c.parent 0) [] (higher_tests w.version (above earlier c) c))
  parent_breaks earlier c =
      cases (eqb c.parent 0) (λ e. rw e tt) (λ e. rw e (chain_breaks earlier c (above earlier c) (drawn_broken earlier c e)))

  pub claim_breaks : (earlier : List Claim) (c : Claim) → All (λ t. Named earlier c t) (claim_tests w earlier c)
  unfolding claim_tests
  claim_breaks earlier c = (
    (λ e. e),
    all_append (λ t. Named earlier c t) (world_tests w earlier 0 c) (cond (eqb c.parent 0) [] (higher_tests w.version (above earlier c) c))
        (world_breaks earlier c) (parent_breaks earlier c),
  )
