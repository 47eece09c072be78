-- Soundness of claims, latest first, rule by rule over the whole list, as 01 says it. Assumes nothing.
use Rattle.std.proofs.Common.{◌≡◌, ◌∙◌, Bool, ◌&&◌, List, [], ◌∷◌, map, eqb}
use Rattle.lists.specs.Tests.{and_left, and_right, iff_same}
use Rattle.lists.specs.Lists.{every, ands, distinct}
use Rattle.lists.specs.Each.{ands_out, any_map}
use Rattle.lists.specs.Distinct.{distinct_nil, distinct_cons}
use Rattle.register.specs.declared.Claim.{Claim}
use Rattle.soundness_rules.specs.Sound.{World, claim_fits, names_stand, root_kept, machine_may, drawn, fresh, alone, over, acceptable, sound_claims}
use Rattle.soundness_rules.proofs.Places.{sound_claims_nil, sound_claims_cons}
use Rattle.soundness_rules.specs.Roots.{each_drawn}

-- rules asked claim by claim are rules asked one after another
rule_by_rule : (f n k m x d F D N K M E : Bool)
    → (ands (f ∷ n ∷ k ∷ m ∷ []) && (x && d)) && ands (F ∷ D ∷ N ∷ K ∷ M ∷ E ∷ []) ≡ ands ((f && F) ∷ (x && D) ∷ (n && N) ∷ (k && K) ∷ (m && M) ∷ (d && E) ∷ [])
rule_by_rule f n k m x d F D N K M E = iff_same _ _
    (λ h. let latest = and_left (ands (f ∷ n ∷ k ∷ m ∷ []) && (x && d)) (ands (F ∷ D ∷ N ∷ K ∷ M ∷ E ∷ [])) h in
    let behind = ands_out (F ∷ D ∷ N ∷ K ∷ M ∷ E ∷ []) (and_right (ands (f ∷ n ∷ k ∷ m ∷ []) && (x && d)) (ands (F ∷ D ∷ N ∷ K ∷ M ∷ E ∷ [])) h) in
    let self = ands_out (f ∷ n ∷ k ∷ m ∷ []) (and_left (ands (f ∷ n ∷ k ∷ m ∷ [])) (x && d) latest) in
    let placed = and_right (ands (f ∷ n ∷ k ∷ m ∷ [])) (x && d) latest in
    rw (
      self.0,
      self.1.0,
      self.1.1.0,
      self.1.1.1.0,
      and_left x d placed,
      and_right x d placed,
      behind.0,
      behind.1.0,
      behind.1.1.0,
      behind.1.1.1.0,
      behind.1.1.1.1.0,
      behind.1.1.1.1.1.0,
    ))
    (λ h. let told = ands_out ((f && F) ∷ (x && D) ∷ (n && N) ∷ (k && K) ∷ (m && M) ∷ (d && E) ∷ []) h in
    rw (
      and_left f F told.0,
      and_left n N told.1.1.0,
      and_left k K told.1.1.1.0,
      and_left m M told.1.1.1.1.0,
      and_left x D told.1.0,
      and_left d E told.1.1.1.1.1.0,
      and_right f F told.0,
      and_right x D told.1.0,
      and_right n N told.1.1.0,
      and_right k K told.1.1.1.0,
      and_right m M told.1.1.1.1.0,
      and_right d E told.1.1.1.1.1.0,
    ))

distinct_claims : (c : Claim) (L : List Claim) → distinct (map (λ d. d.id) (c ∷ L)) ≡ fresh L c && distinct (map (λ d. d.id) L)
unfolding fresh
distinct_claims c L = distinct_cons c.id (map (λ d. d.id) L) ∙ rw (any_map (λ d. d.id) (eqb c.id) L)

-- the natural reading of soundness
pub sound_claims_natural : (w : World) (L : List Claim)
    → sound_claims w L ≡ ands (
    every (claim_fits w.version) L
    ∷ distinct (map (λ c. c.id) L)
    ∷ every (names_stand w) L
    ∷ every (root_kept w) L
    ∷ every (machine_may w) L
    ∷ each_drawn w.version L
    ∷ [])
unfolding acceptable alone over
sound_claims_natural w [] = sound_claims_nil w ∙ rw distinct_nil
sound_claims_natural w (c ∷ L) = rw (sound_claims_cons w c L, sound_claims_natural w L, distinct_claims c L)
    (rule_by_rule (claim_fits w.version c) (names_stand w c) (root_kept w c) (machine_may w c) (fresh L c) (drawn w.version L c) (every (claim_fits w.version) L)
    (distinct (map (λ c. c.id) L)) (every (names_stand w) L) (every (root_kept w) L) (every (machine_may w) L) (each_drawn w.version L))
