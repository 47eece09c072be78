-- Laws: A root candidate passes exactly where its signer keeps the resource, one below a claim exactly where the signer may sign below it. Assumes nothing.
use Rattle.std.specs.Prelude.{◌≡◌, refl, true, false, not, ◌&&◌, List, [], ◌∷◌, ◌++◌, ℕ, ◌<◌, eqb, leb, ltb}
use Rattle.std.proofs.Common.{ap, sym, ◌∙◌, arith, eqb-true, eq-eqb, ne_eqb, ltb-true, lt-ltb, le-leb}
use Rattle.std.proofs.lemmas.Bool.{not-true}
use Rattle.lists.specs.Tests.{and_left, and_right, and_both, or_other, or_second, iff_same}
use Rattle.lists.specs.Lists.{any, every}
use Rattle.lists.specs.Each.{ands_out}
use Rattle.rights.specs.Rights.{delegating, has_right, has_rights}
use Rattle.register.specs.Limits.{id_limit, weight_limit}
use Rattle.register.specs.Register.{claims_of, Shaped}
use Rattle.register.specs.Chain.{chain, above, chain_of, circling, current, live, latest}
use Rattle.register.specs.Laws.{chain_zero}
use Rattle.register.specs.declared.Claim.{Claim}
use Rattle.register.specs.declared.Register.{Register}
use Rattle.soundness_rules.specs.Sound.{World, sound, names_stand, root_kept, drawn_from, hands_left, fewer_left, over_chain, drawn}
use Rattle.soundness_rules.proofs.Laws.{ranged_in, acceptable_out, claim_fits_out, root_kept_out, over_chain_out}
use Rattle.soundness_rules.proofs.Places.{place_acceptable}
use Rattle.soundness_rules.proofs.Chains.{place_above, place_chain}
use Rattle.change_rules.specs.Changes.{world_in, standing, source_live}
use Rattle.actions.specs.declared.Usage.{Usage}
use Rattle.gate_rules.specs.Authority.{IsIn}
use Rattle.gate_rules.specs.Places.{latest_split}
use Rattle.gate_rules.proofs.Coverage.{sound_place}
use Rattle.proposals.specs.Proposals.{signers_of, of_form, helping, passing_grant, candidate}
use Rattle.proposals.specs.Marks.{marked, may_sign, signable}
use Rattle.proposals.specs.declared.Signers.{Signers}
use Rattle.change_rules.proofs.Grants.{GrantPassed}
use Rattle.proposals.specs.Forms.{help_out}
use Rattle.proposals.specs.Hands.{fewer_hands, fewer_in}
use Rattle.proposals.specs.Ranges.{has_worth, human_known, human_unlike, keeps_out}
use Rattle.proposals.proofs.Exact.{Clear, may_same, from_passed, accepted_passes}
use Rattle.proposals.specs.Asked.{Asked}

kept_in : (w : World) (c : Claim) → w.keeps c.grantor c.resource ≡ true → root_kept w c ≡ true
unfolding root_kept
kept_in w c h = or_second (not (eqb c.parent 0)) (w.keeps c.grantor c.resource) h

kept_below : (w : World) (c : Claim) → (c.parent ≡ 0 → ⊥) → root_kept w c ≡ true
unfolding root_kept
kept_below w c other = rw (ne_eqb c.parent 0 other)

drawn_root : (version : ℕ) (L : List Claim) (c : Claim) → c.parent ≡ 0 → drawn version L c ≡ true
unfolding drawn
drawn_root version L c root = rw (eq-eqb c.parent 0 root)

drawn_below : (version : ℕ) (L : List Claim) (c : Claim) → over_chain version (above L c) c ≡ true → drawn version L c ≡ true
unfolding drawn
drawn_below version L c h = or_second (eqb c.parent 0) (over_chain version (above L c) c) h

below_drawn : (version : ℕ) (L : List Claim) (c : Claim) → (c.parent ≡ 0 → ⊥) → drawn version L c ≡ true → over_chain version (above L c) c ≡ true
unfolding drawn
below_drawn version L c other h = or_other (eqb c.parent 0) (over_chain version (above L c) c) h (ne_eqb c.parent 0 other)

over_chain_in : (version : ℕ) (p : Claim) (higher : List Claim) (c : Claim) → eqb p.holder c.grantor ≡ true → eqb p.resource c.resource ≡ true
    → has_right p.rights delegating ≡ true → has_rights p.rights c.rights ≡ true → leb c.weight p.weight ≡ true
    → fewer_left version p higher c ≡ true → circling (λ d. d.grantor) (λ d. d.holder) (p ∷ higher) c.holder ≡ false
    → over_chain version (p ∷ higher) c ≡ true
unfolding over_chain drawn_from
over_chain_in version p higher c held on delegates contains light fewer uncircled = rw (held, on, delegates, contains, light, fewer, uncircled)

source_as_live : (moment : ℕ) (p : Claim) (higher : List Claim) → source_live moment (p ∷ higher) ≡ every (current moment) (p ∷ higher)
unfolding source_live
source_as_live moment p higher = refl

may_human : (r : Register) (u : Usage) (g : ℕ) → (world_in r).machine g ≡ false → may_sign r u g ≡ true
unfolding may_sign
may_human r u g h = rw h

-- a mark, part by part
pub record Marked (r : Register) (x : ℕ) (u : Usage) (moment : ℕ) (p : Claim) : Type 0 where
  pub on_used : eqb p.resource u.resource ≡ true
  pub lives : live moment (standing r) p ≡ true
  pub delegates : has_right p.rights delegating ≡ true
  pub has : has_right p.rights u.right ≡ true
  pub hands : ltb 0 (hands_left r.version (above (standing r) p) p) ≡ true
  pub uncircled : circling (λ d. d.grantor) (λ d. d.holder) (chain_of (standing r) p) x ≡ false

pub marked_out : (r : Register) (x : ℕ) (u : Usage) (moment : ℕ) (p : Claim) → marked r x u moment p ≡ true → Marked r x u moment p
unfolding marked
marked_out r x u moment p h =
    let told = ands_out (eqb p.resource u.resource ∷ live moment (standing r) p ∷ has_right p.rights delegating ∷ has_right p.rights u.right
    ∷ ltb 0 (hands_left r.version (above (standing r) p) p) ∷ not (circling (λ d. d.grantor) (λ d. d.holder) (chain_of (standing r) p) x) ∷ []) h in
    record {
      on_used = told.0;
      lives = told.1.0;
      delegates = told.1.1.0;
      has = told.1.1.1.0;
      hands = told.1.1.1.1.0;
      uncircled = not-true (circling (λ d. d.grantor) (λ d. d.holder) (chain_of (standing r) p) x) told.1.1.1.1.1.0;
    }

pub marked_in : (r : Register) (x : ℕ) (u : Usage) (moment : ℕ) (p : Claim) → Marked r x u moment p → marked r x u moment p ≡ true
unfolding marked
marked_in r x u moment p h =
    and_both (eqb p.resource u.resource) _ h.on_used (and_both (live moment (standing r) p) _ h.lives
    (and_both (has_right p.rights delegating) _ h.delegates (and_both (has_right p.rights u.right) _ h.has
    (and_both (ltb 0 (hands_left r.version (above (standing r) p) p)) _ h.hands (rw h.uncircled)))))

-- a claim's number has its chain
pub own_chain : (r : Register) → sound r ≡ true → (p : Claim) → IsIn (claims_of r.claims) p
    → chain (λ d. d.id) (λ d. d.parent) (standing r) p.id ≡ chain_of (standing r) p
own_chain r h p at =
    let L : List Claim = latest at.after in
    let M : List Claim = latest at.before in
    let behind = sound_place r h p at in
    let whole : standing r ≡ L ++ p ∷ M = ap latest at.split ∙ latest_split at.before p at.after in
    ap (λ K. chain (λ d. d.id) (λ d. d.parent) K p.id) whole
    ∙ place_chain (world_in r) L p M behind
    ∙ sym (ap (λ K. p ∷ K) (ap (λ K. above K p) whole ∙ place_above (world_in r) L p M behind))

-- what stands of a claim that stands
names_out : (w : World) (c : Claim) → names_stand w c ≡ true → (w.known c.grantor ≡ true) × (w.known c.holder ≡ true) × (w.listed c.resource ≡ true)
unfolding names_stand
names_out w c h =
    let told = ands_out (w.known c.grantor ∷ w.known c.holder ∷ w.listed c.resource ∷ []) h in (told.0, told.1.0, told.1.1.0)

module _ (r : Register) (x : ℕ) (u : Usage) (moment : ℕ) (s : Signers) (shaped : Shaped r) (asked : Asked r x u moment) (fair : Clear r x u moment) (g : ℕ)
    (willing : any (eqb g) (signers_of s) ≡ true) where
  taken_of : (c : Claim) → passing_grant r x u moment s c ≡ true → GrantPassed r c moment
  taken_of c h = (help_out r x u moment c (and_right (of_form x u s c) (helping r x u moment c) h)).taken

  pub root_exact : passing_grant r x u moment s (candidate r x u g 0 weight_limit) ≡ (world_in r).keeps g u.resource
  root_exact =
      let c : Claim = candidate r x u g 0 weight_limit in
      iff_same (passing_grant r x u moment s c) ((world_in r).keeps g u.resource)
      (λ h. root_kept_out (world_in r) c (acceptable_out (world_in r) (standing r) c (taken_of c h).fitting).by_itself.kept refl)
      (λ k. let keeping = keeps_out r asked.judged g u.resource k in
      let alone : above (standing r) c ≡ [] = chain_zero (λ d. d.id) (λ d. d.parent) (standing r) in
      accepted_passes r x u moment s shaped asked fair g willing 0 weight_limit
      (from_passed r x u moment s shaped asked fair g willing 0 weight_limit refl refl keeping.keeper_id (human_known r g keeping.keeper_human)
      keeping.kept_id keeping.kept (kept_in (world_in r) c k) (may_human r u g (human_unlike r asked.judged g keeping.keeper_human))
      (drawn_root r.version (standing r) c refl) refl)
      (omega arith) (rw alone))

  pub below_exact : (p : Claim) → IsIn (claims_of r.claims) p
      → passing_grant r x u moment s (candidate r x u g p.id p.weight) ≡ signable r x u moment g p
  below_exact p at =
      let c : Claim = candidate r x u g p.id p.weight in
      let own = own_chain r asked.judged p at in
      let stood = (place_acceptable (world_in r) (latest at.after) p (latest at.before) (sound_place r asked.judged p at)).by_itself in
      let fits = claim_fits_out r.version p stood.fits in
      let some : (p.id ≡ 0 → ⊥) = λ none. omega (arith, none, fits.id_least) in
      iff_same (passing_grant r x u moment s c) (signable r x u moment g p)
      (λ h. let taken = taken_of c h in
      let told = acceptable_out (world_in r) (standing r) c taken.fitting in
      let over = over_chain_out r.version p (above (standing r) p) c (rw own at (below_drawn r.version (standing r) c some told.over_earlier.chained)) in
      let lives : source_live moment (p ∷ above (standing r) p) ≡ true =
      rw own at (or_other (eqb p.id 0) (source_live moment (above (standing r) c)) taken.lives (ne_eqb p.id 0 some)) in
      and_both (eqb p.holder g) _ (eq-eqb p.holder g over.drawn_from_parent.held)
      (and_both (may_sign r u g) (marked r x u moment p) (sym (may_same r u c refl) ∙ told.by_itself.granted)
      (marked_in r x u moment p record {
        on_used = eq-eqb p.resource u.resource over.drawn_from_parent.on_same;
        lives = sym (source_as_live moment p (above (standing r) p)) ∙ lives;
        delegates = over.drawn_from_parent.delegates;
        has = sym (has_worth p.rights u.right asked.right) ∙ over.drawn_from_parent.contains;
        hands = fewer_hands r.version p (above (standing r) p) c
            (lt-ltb (hands_left r.version (p ∷ above (standing r) p) c) (hands_left r.version (above (standing r) p) p) over.fewer);
        uncircled = over.uncircled;
      })))
      (λ k. let held = and_left (eqb p.holder g) (may_sign r u g && marked r x u moment p) k in
      let rest = and_right (eqb p.holder g) (may_sign r u g && marked r x u moment p) k in
      let may = and_left (may_sign r u g) (marked r x u moment p) rest in
      let mark = marked_out r x u moment p (and_right (may_sign r u g) (marked r x u moment p) rest) in
      let names = names_out (world_in r) p stood.stands in
      let signer : p.holder ≡ g = eqb-true p.holder g held in
      let on : p.resource ≡ u.resource = eqb-true p.resource u.resource mark.on_used in
      let over : over_chain r.version (chain_of (standing r) p) c ≡ true = over_chain_in r.version p (above (standing r) p) c held mark.on_used mark.delegates
      (has_worth p.rights u.right asked.right ∙ mark.has) (le-leb p.weight p.weight (omega arith))
      (fewer_in r.version p (above (standing r) p) c refl mark.hands) mark.uncircled in
      let source : source_live moment (chain_of (standing r) p) ≡ true = source_as_live moment p (above (standing r) p) ∙ mark.lives in
      let weighs : 0 < p.weight = ltb-true 0 p.weight (and_left (ltb 0 p.weight) _ (and_left (current moment p) (every (current moment) (above (standing r) p)) mark.lives)) in
      accepted_passes r x u moment s shaped asked fair g willing p.id p.weight
      (from_passed r x u moment s shaped asked fair g willing p.id p.weight (le-leb p.id id_limit fits.id_greatest)
      (le-leb p.weight weight_limit fits.weight_greatest) (rw (← signer) (ranged_in 1 id_limit p.holder fits.holder_least fits.holder_greatest))
      (rw (← signer) names.1) (rw (← on) (ranged_in 1 id_limit p.resource fits.resource_least fits.resource_greatest)) (rw (← on) names.2)
      (kept_below (world_in r) c some) may (drawn_below r.version (standing r) c (rw own over)) (or_second (eqb p.id 0) _ (rw own source)))
      weighs (rw own mark.lives))
