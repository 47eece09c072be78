-- Laws: What each judgement of soundness says, part by part: from the judgement to its parts (`-out`) and back (`-in`). Assumes nothing.
use Rattle.std.specs.Prelude.{◌≡◌, refl, true, false, not, ◌||◌, List, [], ◌∷◌, ℕ, ◌≤◌, ◌<◌, ◌^◌, eqb, leb, ltb}
use Rattle.std.proofs.Common.{sym, ap, ◌∙◌, eqb-true, leb-true, ltb-true, eq-eqb, ne_eqb, le-leb}
use Rattle.std.proofs.lemmas.Bool.{eqb-false, not-true}
use Rattle.lists.specs.Tests.{cases, clash, and_left, and_right, and_both, or_other}
use Rattle.lists.specs.Lists.{any, All}
use Rattle.lists.specs.Each.{all_imp, none_all, all_none, ands_out, list_cases, cons_clash}
use Rattle.rights.specs.Rights.{right_count, delegating, is_rights, has_right, has_rights}
use Rattle.register.specs.Limits.{is_id, ranged, id_limit, weight_limit, left_limit, tells_left, moment_end}
use Rattle.register.specs.Chain.{above, circling}
use Rattle.register.specs.declared.Claim.{Claim}
use Rattle.soundness_rules.specs.Sound.{World, claim_fits, names_stand, root_kept, drawn_from, machine_may, hands_left, fewer_left, over_chain, drawn, fresh, alone, over, acceptable}
use Rattle.soundness_rules.specs.Roots.{DrawnFrom}

-- a claim's fields are in their ranges
pub record Fits (version : ℕ) (c : Claim) : Type 0 where
  pub id_least : 1 ≤ c.id
  pub id_greatest : c.id ≤ id_limit
  pub parent_greatest : c.parent ≤ id_limit
  pub grantor_least : 1 ≤ c.grantor
  pub grantor_greatest : c.grantor ≤ id_limit
  pub holder_least : 1 ≤ c.holder
  pub holder_greatest : c.holder ≤ id_limit
  pub resource_least : 1 ≤ c.resource
  pub resource_greatest : c.resource ≤ id_limit
  pub rights_least : 1 ≤ c.rights
  pub rights_below : c.rights < 2 ^ right_count
  pub weight_greatest : c.weight ≤ weight_limit
  pub left_greatest : tells_left version ≡ true → c.left ≤ left_limit
  pub expiry_below : c.expiry < moment_end

pub ranged_least : (least greatest n : ℕ) → ranged least greatest n ≡ true → least ≤ n
ranged_least least greatest n h = leb-true least n (and_left (leb least n) (leb n greatest) h)

pub ranged_greatest : (least greatest n : ℕ) → ranged least greatest n ≡ true → n ≤ greatest
ranged_greatest least greatest n h = leb-true n greatest (and_right (leb least n) (leb n greatest) h)

pub ranged_in : (least greatest n : ℕ) → least ≤ n → n ≤ greatest → ranged least greatest n ≡ true
ranged_in least greatest n low high = and_both (leb least n) (leb n greatest) (le-leb least n low) (le-leb n greatest high)

pub claim_fits_out : (version : ℕ) (c : Claim) → claim_fits version c ≡ true → Fits version c
unfolding claim_fits
claim_fits_out version c h =
    let told = ands_out (is_id c.id ∷ leb c.parent id_limit ∷ is_id c.grantor ∷ is_id c.holder ∷ is_id c.resource ∷ is_rights c.rights
    ∷ leb c.weight weight_limit ∷ (not (tells_left version) || leb c.left left_limit) ∷ ltb c.expiry moment_end ∷ []) h in
    record {
      id_least = ranged_least 1 id_limit c.id told.0;
      id_greatest = ranged_greatest 1 id_limit c.id told.0;
      parent_greatest = leb-true c.parent id_limit told.1.0;
      grantor_least = ranged_least 1 id_limit c.grantor told.1.1.0;
      grantor_greatest = ranged_greatest 1 id_limit c.grantor told.1.1.0;
      holder_least = ranged_least 1 id_limit c.holder told.1.1.1.0;
      holder_greatest = ranged_greatest 1 id_limit c.holder told.1.1.1.0;
      resource_least = ranged_least 1 id_limit c.resource told.1.1.1.1.0;
      resource_greatest = ranged_greatest 1 id_limit c.resource told.1.1.1.1.0;
      rights_least = ltb-true 0 c.rights (and_left (ltb 0 c.rights) (ltb c.rights (2 ^ right_count)) told.1.1.1.1.1.0);
      rights_below = ltb-true c.rights (2 ^ right_count) (and_right (ltb 0 c.rights) (ltb c.rights (2 ^ right_count)) told.1.1.1.1.1.0);
      weight_greatest = leb-true c.weight weight_limit told.1.1.1.1.1.1.0;
      left_greatest = λ tells. leb-true c.left left_limit
          (or_other (not (tells_left version)) (leb c.left left_limit) told.1.1.1.1.1.1.1.0 (ap not tells));
      expiry_below = ltb-true c.expiry moment_end told.1.1.1.1.1.1.1.1.0;
    }

-- (a)
pub root_kept_out : (w : World) (c : Claim) → root_kept w c ≡ true → c.parent ≡ 0 → w.keeps c.grantor c.resource ≡ true
unfolding root_kept
root_kept_out w c h root = or_other (not (eqb c.parent 0)) (w.keeps c.grantor c.resource) h (rw (eq-eqb c.parent 0 root))

pub drawn_from_out : (p c : Claim) → drawn_from p c ≡ true → DrawnFrom p c
unfolding drawn_from
drawn_from_out p c h =
    let told = ands_out (eqb p.holder c.grantor ∷ eqb p.resource c.resource ∷ has_right p.rights delegating
    ∷ has_rights p.rights c.rights ∷ leb c.weight p.weight ∷ []) h in
    record {
      held = eqb-true p.holder c.grantor told.0;
      on_same = eqb-true p.resource c.resource told.1.0;
      delegates = told.1.1.0;
      contains = told.1.1.1.0;
      weighs = leb-true c.weight p.weight told.1.1.1.1.0;
    }

-- (b), (d) and (e), of a claim and the chain above it: its parent and what is higher
pub record OverChain (version : ℕ) (p : Claim) (higher : List Claim) (c : Claim) : Type 0 where
  pub drawn_from_parent : DrawnFrom p c
  pub fewer : hands_left version (p ∷ higher) c < hands_left version higher p
  pub uncircled : circling (λ d. d.grantor) (λ d. d.holder) (p ∷ higher) c.holder ≡ false

pub over_chain_out : (version : ℕ) (p : Claim) (higher : List Claim) (c : Claim) → over_chain version (p ∷ higher) c ≡ true → OverChain version p higher c
unfolding over_chain
over_chain_out version p higher c h =
    let told = ands_out (drawn_from p c ∷ fewer_left version p higher c
    ∷ not (circling (λ d. d.grantor) (λ d. d.holder) (p ∷ higher) c.holder) ∷ []) h in
    record {
      drawn_from_parent = drawn_from_out p c told.0;
      fewer = ltb-true (hands_left version (p ∷ higher) c) (hands_left version higher p) told.1.0;
      uncircled = not-true (circling (λ d. d.grantor) (λ d. d.holder) (p ∷ higher) c.holder) told.1.1.0;
    }

-- over no chain nothing is drawn
pub over_chain_nil : (version : ℕ) (c : Claim) → over_chain version [] c ≡ false
unfolding over_chain
over_chain_nil version c = refl

-- a claim that is no root, over its chain among the earlier claims
pub record Drawn (version : ℕ) (earlier : List Claim) (c : Claim) : Type 0 where
  pub parent : Claim
  pub higher : List Claim
  pub chained : above earlier c ≡ parent ∷ higher
  pub over_it : OverChain version parent higher c

pub drawn_out : (version : ℕ) (earlier : List Claim) (c : Claim) → drawn version earlier c ≡ true → (c.parent ≡ 0 → ⊥) → Drawn version earlier c
unfolding drawn
drawn_out version earlier c h other =
    let told = or_other (eqb c.parent 0) (over_chain version (above earlier c) c) h (ne_eqb c.parent 0 other) in
    list_cases (above earlier c) (λ e. clash (over_chain version (above earlier c) c) told (rw e (over_chain_nil version c)))
    (λ p higher e. record { parent = p; higher = higher; chained = e; over_it = over_chain_out version p higher c (rw e at told) })

-- it is the chain above that decides
pub drawn_same : (version : ℕ) (K M : List Claim) (c : Claim) → above K c ≡ above M c → drawn version K c ≡ drawn version M c
unfolding drawn
drawn_same version K M c e = rw e

-- a claim with no chain above it is a root
pub drawn_stands : (version : ℕ) (earlier : List Claim) (c : Claim) → drawn version earlier c ≡ true → above earlier c ≡ [] → c.parent ≡ 0
drawn_stands version earlier c h none =
    cases (eqb c.parent 0) (λ e. eqb-true c.parent 0 e)
    (λ e. let d = drawn_out version earlier c h (eqb-false c.parent 0 e) in cons_clash (sym d.chained ∙ none))

-- an id that is fresh differs from each earlier one
pub fresh_out : (earlier : List Claim) (c : Claim) → fresh earlier c ≡ true → All (λ d. c.id ≡ d.id → ⊥) earlier
unfolding fresh
fresh_out earlier c h =
    all_imp (λ d. eqb c.id d.id ≡ false) (λ d. c.id ≡ d.id → ⊥) (λ d e. eqb-false c.id d.id e) earlier
    (none_all (λ d. eqb c.id d.id) earlier (not-true (any (λ d. eqb c.id d.id) earlier) h))

pub fresh_in : (earlier : List Claim) (c : Claim) → All (λ d. c.id ≡ d.id → ⊥) earlier → fresh earlier c ≡ true
unfolding fresh
fresh_in earlier c h = rw (all_none (λ d. eqb c.id d.id) earlier
    (all_imp (λ d. c.id ≡ d.id → ⊥) (λ d. eqb c.id d.id ≡ false) (λ d e. ne_eqb c.id d.id e) earlier h))

-- what a claim is asked by itself
pub record Alone (w : World) (c : Claim) : Type 0 where
  pub fits : claim_fits w.version c ≡ true
  pub stands : names_stand w c ≡ true
  pub kept : root_kept w c ≡ true
  pub granted : machine_may w c ≡ true

pub alone_out : (w : World) (c : Claim) → alone w c ≡ true → Alone w c
unfolding alone
alone_out w c h =
    let told = ands_out (claim_fits w.version c ∷ names_stand w c ∷ root_kept w c ∷ machine_may w c ∷ []) h in
    record { fits = told.0; stands = told.1.0; kept = told.1.1.0; granted = told.1.1.1.0 }

pub alone_in : (w : World) (c : Claim) → Alone w c → alone w c ≡ true
unfolding alone
alone_in w c h = rw (h.fits, h.stands, h.kept, h.granted)

-- what a claim is asked over the earlier ones
pub record Over (version : ℕ) (earlier : List Claim) (c : Claim) : Type 0 where
  pub apart : fresh earlier c ≡ true
  pub chained : drawn version earlier c ≡ true

pub over_out : (version : ℕ) (earlier : List Claim) (c : Claim) → over version earlier c ≡ true → Over version earlier c
unfolding over
over_out version earlier c h =
    record { apart = and_left (fresh earlier c) (drawn version earlier c) h; chained = and_right (fresh earlier c) (drawn version earlier c) h }

pub over_in : (version : ℕ) (earlier : List Claim) (c : Claim) → Over version earlier c → over version earlier c ≡ true
unfolding over
over_in version earlier c h = rw (h.apart, h.chained)

-- both
pub record Acceptable (w : World) (earlier : List Claim) (c : Claim) : Type 0 where
  pub by_itself : Alone w c
  pub over_earlier : Over w.version earlier c

pub acceptable_out : (w : World) (earlier : List Claim) (c : Claim) → acceptable w earlier c ≡ true → Acceptable w earlier c
unfolding acceptable
acceptable_out w earlier c h =
    record {
      by_itself = alone_out w c (and_left (alone w c) (over w.version earlier c) h);
      over_earlier = over_out w.version earlier c (and_right (alone w c) (over w.version earlier c) h);
    }

pub acceptable_in : (w : World) (earlier : List Claim) (c : Claim) → Acceptable w earlier c → acceptable w earlier c ≡ true
unfolding acceptable
acceptable_in w earlier c h = rw (alone_in w c h.by_itself, over_in w.version earlier c h.over_earlier)
