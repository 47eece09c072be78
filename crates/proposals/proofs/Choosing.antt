-- Where some grant of the form passes and the use alone is not permitted, a candidate passes. Assumes nothing.
use Rattle.std.proofs.Common.{◌≡◌, ap, sym, ◌∙◌, Bool, true, false, List, [], ◌∷◌, ℕ, ◌≤◌, ◌<◌, arith, eqb-true, ltb-true, eqb, ltb, length, length-take}
use borrow.Author.Tests.{eqb-false}
use Rattle.lists.specs.Tests.{cases, and_left, and_both, or_other, or_second}
use Rattle.lists.specs.Lists.{any, every}
use Rattle.lists.specs.Each.{any_append, any_map, any_reverse, cons_clash}
use Rattle.register.specs.Limits.{claim_limit, weight_limit}
use Rattle.register.specs.Register.{claims_of, Shaped}
use Rattle.register.specs.Chain.{above, current, latest}
use Rattle.register.specs.Laws.{chain_zero, chain_id, all_chain}
use Rattle.register.specs.declared.Claim.{Claim}
use Rattle.register.specs.declared.Register.{Register}
use Rattle.soundness_rules.specs.Sound.{stored}
use Rattle.soundness_rules.proofs.Laws.{acceptable_out, claim_fits_out, drawn_out}
use Rattle.soundness_rules.proofs.Places.{place_acceptable}
use Rattle.change_rules.specs.Changes.{world_in, standing, appended}
use Rattle.actions.specs.declared.Usage.{Usage}
use Rattle.gate_rules.specs.Gate.{covering}
use Rattle.gate_rules.specs.Authority.{IsIn}
use Rattle.gate_rules.specs.Places.{each_place, all_latest, place_any}
use Rattle.gate_rules.proofs.Coverage.{sound_place}
use Rattle.actions.specs.Actions.{one_use}
use Rattle.proposals.specs.Proposals.{signers_of, permits, of_form, helping, passing_grant, least_free, candidate, signed_by, candidates}
use Rattle.proposals.specs.declared.Signers.{Signers}
use Rattle.change_rules.proofs.Grants.{stored_passed}
use Rattle.proposals.specs.Forms.{Formed, form_in, Helped, help_in}
use Rattle.proposals.specs.Helping.{helped_covering, stead_permits}
use Rattle.proposals.specs.Freeing.{least_free_least, least_free_greatest, least_free_alone}
use Rattle.proposals.proofs.Swapping.{stead, Fitting, stead_passed, covering_above, stead_covering}

-- what some grant by a signer passes, some candidate does
any_candidates : (r : Register) (x : ℕ) (u : Usage) (p : Claim → Bool) (g : ℕ) (gs : List ℕ) → any (eqb g) gs ≡ true → any p (signed_by r x u g) ≡ true
    → any p (candidates r x u gs) ≡ true
any_candidates r x u p g [] h k = h
any_candidates r x u p g (f ∷ gs) h k =
    any_append p (signed_by r x u f) (candidates r x u gs)
    ∙ cases (eqb g f)
    (λ e. let same : g ≡ f = eqb-true g f e in let here : any p (signed_by r x u f) ≡ true = ap (λ d. any p (signed_by r x u d)) (sym same) ∙ k in rw here)
    (λ e. or_second (any p (signed_by r x u f)) (any p (candidates r x u gs))
    (any_candidates r x u p g gs (or_other (eqb g f) (any (eqb g) gs) h e) k))

module _ (r : Register) (x : ℕ) (u : Usage) (moment : ℕ) (s : Signers) (c : Claim) (shaped : Shaped r) (formed : Formed x u s c) (helped : Helped r x u moment c)
    (before : permits r (one_use x u moment) ≡ false) where
  -- what is appended: the claim as it is stored
  abbrev put : Claim
  put = stored r.version (standing r) c

  covers_itself : covering (appended r put) moment x u put ≡ true
  covers_itself = helped_covering r put x u moment shaped (stored_passed r c moment helped.taken) formed.held before helped.after

  -- the least free id fits, and with it every weight up to the limit and the parent's
  fitting : (weight : ℕ) → weight ≤ weight_limit → ((p : Claim) (higher : List Claim) → above (standing r) c ≡ p ∷ higher → weight ≤ p.weight)
      → Fitting r c (least_free (claims_of r.claims)) weight
  fitting weight light below =
      let cs : List Claim = claims_of r.claims in
      let few : r.claims.count < claim_limit = ltb-true r.claims.count claim_limit helped.taken.room in
      let least = least_free_least cs in
      let most = least_free_greatest cs in
      let long : length cs ≤ r.claims.count = omega (arith, length-take r.claims.count r.claims.list) in
      record {
        least = least;
        greatest = omega (arith, most, long, few);
        free = any_reverse (λ d. eqb (least_free cs) d.id) cs ∙ least_free_alone cs;
        light = light;
        below = below;
      }

  -- the candidate of such a weight passes
  candidate_passes : (weight : ℕ) → 0 < weight → weight ≤ weight_limit
      → ((p : Claim) (higher : List Claim) → above (standing r) c ≡ p ∷ higher → weight ≤ p.weight)
      → passing_grant r x u moment s (candidate r x u c.grantor c.parent weight) ≡ true
  candidate_passes weight weighs light below =
      let id : ℕ = least_free (claims_of r.claims) in
      let fits = fitting weight light below in
      let taken = stead_passed r c moment helped.taken id weight fits in
      let d : Claim = stead c id weight in
      let passes : passing_grant r x u moment s d ≡ true =
      and_both (of_form x u s d) (helping r x u moment d)
      (form_in x u s d record { held = formed.held; on_used = formed.on_used; single = formed.single; signed = formed.signed })
      (help_in r x u moment d record {
        taken = taken;
        after = stead_permits r put x u moment shaped (stored_passed r c moment helped.taken) formed.held
            (stored r.version (standing r) d) (stored_passed r d moment taken)
            (stead_covering r c x u moment shaped helped.taken id weight fits weighs covers_itself) helped.after;
      }) in
      let same : d ≡ candidate r x u c.grantor c.parent weight = rw (formed.held, formed.on_used, formed.single) in
      ap (passing_grant r x u moment s) (sym same) ∙ passes

  -- so one that the signer would sign passes: a root, or one below the parent
  signed_passes : any (passing_grant r x u moment s) (signed_by r x u c.grantor) ≡ true
  signed_passes =
      cases (eqb c.parent 0)
      (λ e. let root : c.parent ≡ 0 = eqb-true c.parent 0 e in
      let alone : above (standing r) c ≡ [] = rw root (chain_zero (λ d. d.id) (λ d. d.parent) (standing r)) in
      let passes = candidate_passes weight_limit (omega arith) (omega arith) (λ p higher k. cons_clash (sym k ∙ alone)) in
      let here : passing_grant r x u moment s (candidate r x u c.grantor 0 weight_limit) ≡ true = rw root at passes in
      rw here)
      (λ e. let told = acceptable_out (world_in r) (standing r) c helped.taken.fitting in
      let d = drawn_out r.version (standing r) c told.over_earlier.chained (eqb-false c.parent 0 e) in
      let p : Claim = d.parent in
      let named : p.id ≡ c.parent = chain_id (λ d. d.id) (λ d. d.parent) (standing r) c.parent p d.higher d.chained in
      let places = all_chain (λ d. d.id) (λ d. d.parent) (λ q. IsIn (claims_of r.claims) q) (standing r) c.parent
      (all_latest (λ q. IsIn (claims_of r.claims) q) (claims_of r.claims) (each_place (claims_of r.claims))) in
      let at : IsIn (claims_of r.claims) p = (rw d.chained at places).0 in
      let lives : every (current moment) (p ∷ d.higher) ≡ true = rw d.chained at (covering_above r put x u moment shaped (stored_passed r c moment helped.taken) covers_itself) in
      let weighs : 0 < p.weight = ltb-true 0 p.weight (and_left (ltb 0 p.weight) _ (and_left (current moment p) (every (current moment) d.higher) lives)) in
      let light : p.weight ≤ weight_limit = (claim_fits_out r.version p (place_acceptable (world_in r) (latest at.after) p (latest at.before)
      (sound_place r helped.taken.judged p at)).by_itself.fits).weight_greatest in
      let passes = candidate_passes p.weight weighs light (λ q higher k. let same : q ≡ p = cc in rw same (omega arith)) in
      or_second (passing_grant r x u moment s (candidate r x u c.grantor 0 weight_limit)) _
      (any_map (λ (q : Claim). candidate r x u c.grantor q.id q.weight) (passing_grant r x u moment s) (claims_of r.claims)
      ∙ place_any (λ q. passing_grant r x u moment s (candidate r x u c.grantor q.id q.weight)) (claims_of r.claims) p at
      (rw named passes)))

  pub some_candidate : any (passing_grant r x u moment s) (candidates r x u (signers_of s)) ≡ true
  some_candidate = any_candidates r x u (passing_grant r x u moment s) c.grantor (signers_of s) formed.signed signed_passes
