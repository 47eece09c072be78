-- The rules of a claim by itself, as the code asks them: each from what the tests found. Assumes nothing.
use Rattle.std.proofs.Common.{◌≡◌, Bool, true, not, ◌&&◌, ◌||◌, [], ◌∷◌, ℕ, eqb, leb, ltb, eq-eqb, ne_eqb}
use Rattle.lists.specs.Each.{joined_ands}
use Rattle.rights.specs.Rights.{is_rights, bars_machine}
use Rattle.register.specs.Limits.{claim_limit, id_limit, weight_limit, left_limit, tells_left, moment_end, machine_kind, is_id}
use Rattle.register.specs.declared.Claim.{Claim}
use Rattle.soundness_rules.specs.Sound.{World, claim_fits, names_stand, root_kept}
use Rattle.claim_judging.specs.Alone.{Found, named_at}

module _ (version : ℕ) (c : Claim) where
  pub claim_asked : {own grantor holder resource rights : Bool}
      → own ≡ is_id c.id
      → grantor ≡ is_id c.grantor
      → holder ≡ is_id c.holder
      → resource ≡ is_id c.resource
      → rights ≡ is_rights c.rights
      → own && leb c.parent id_limit && grantor && holder && resource && rights && leb c.weight weight_limit
      && (not (tells_left version) || leb c.left left_limit) && ltb c.expiry moment_end
      ≡ claim_fits version c
  unfolding claim_fits
  claim_asked o g h s r =
      rw (o, g, h, s, r)
      (joined_ands
      (is_id c.id)
      (leb c.parent id_limit
      ∷ is_id c.grantor
      ∷ is_id c.holder
      ∷ is_id c.resource
      ∷ is_rights c.rights
      ∷ leb c.weight weight_limit
      ∷ (not (tells_left version) || leb c.left left_limit)
      ∷ ltb c.expiry moment_end
      ∷ []))

module _ (w : World) (c : Claim) where
  pub names_asked : {grantor holder resource : Bool}
      → grantor ≡ w.known c.grantor
      → holder ≡ w.known c.holder
      → resource ≡ w.listed c.resource
      → grantor && holder && resource ≡ names_stand w c
  unfolding names_stand
  names_asked g h s =
      rw (g, h, s) (joined_ands (w.known c.grantor) (w.known c.holder ∷ w.listed c.resource ∷ []))

  -- a claim with a parent is no root
  pub root_none : (c.parent ≡ 0 → ⊥) → true ≡ root_kept w c
  unfolding root_kept
  root_none h = rw (ne_eqb c.parent 0 h)

  -- a root's grantor is asked for as the keeper
  pub root_asked : {kept : Bool} → c.parent ≡ 0 → kept ≡ w.keeps c.grantor c.resource → kept ≡ root_kept w c
  unfolding root_kept
  root_asked h q = rw (eq-eqb c.parent 0 h) q

-- a claim by what was looked up of it
pub named_asked : (c : Claim) (f : Found) {barred : Bool} → barred ≡ bars_machine c.rights
    → ltb f.grantor claim_limit
    && ltb f.holder claim_limit
    && ltb f.report claim_limit
    && (not (eqb c.parent 0) || eqb c.grantor f.keeper)
    && (not (eqb machine_kind f.kind) || (not (eqb 0 f.owner) && not barred))
    ≡ named_at c f
unfolding named_at
named_asked c f b =
    rw b
    (joined_ands
    (ltb f.grantor claim_limit)
    (ltb f.holder claim_limit
    ∷ ltb f.report claim_limit
    ∷ (not (eqb c.parent 0) || eqb c.grantor f.keeper)
    ∷ (not (eqb machine_kind f.kind) || (not (eqb 0 f.owner) && not (bars_machine c.rights)))
    ∷ []))
