-- Laws: When a candidate passes, in the planner's own words: a root exactly where its signer keeps the resource, one below a claim exactly where the signer may
-- sign below it; and where something passes, what must hold whoever signs does. Assumes nothing.
use Rattle.std.proofs.Common.{◌≡◌, false, not, ◌||◌, List, [], ◌∷◌, ℕ, ◌≤◌, ◌<◌, eqb, leb, ltb, length, Ok, sym, ◌∙◌, arith, length-take, eq-eqb, ltb-true, lt-ltb}
use Rattle.std.proofs.Math.Path.{refl}
use Rattle.std.proofs.Math.Bool.{true}
use borrow.Author.Tests.{not-true}
use Rattle.lists.specs.Tests.{and_left, and_right, and_both, or_second}
use Rattle.lists.specs.Lists.{any, every}
use Rattle.lists.specs.Each.{ands_out, any_reverse}
use Rattle.rights.specs.Rights.{is_right, worth_of, is_rights}
use Rattle.register.specs.Limits.{claim_limit, is_id, id_limit, weight_limit, left_limit, tells_left, moment_end}
use Rattle.register.specs.Register.{claims_of, Shaped}
use Rattle.register.specs.Chain.{above, current}
use Rattle.register.specs.declared.Claim.{Claim}
use Rattle.register.specs.declared.Register.{Register}
use Rattle.soundness_rules.specs.Sound.{World, claim_fits, names_stand, root_kept, machine_may, drawn, fresh, stored}
use Rattle.soundness_rules.proofs.Laws.{ranged_in, acceptable_in}
use Rattle.refusals.specs.Refusals.{outcome_of}
use Rattle.refusals.proofs.Laws.{accepted_out}
use Rattle.change_rules.specs.Changes.{world_in, standing, source_live, appended}
use Rattle.actions.specs.declared.Usage.{Usage}
use Rattle.gate_rules.specs.Gate.{contains, covering, covers, is_ownerless, owner_lacks}
use Rattle.gate_rules.proofs.Coverage.{covering_out, covering_in}
use Rattle.actions.specs.Actions.{one_use, action_fits}
use Rattle.proposals.specs.Proposals.{signer_limit, signers_of, asks_fit, ask_tests, permits, of_form, helping, passing_grant, least_free, candidate}
use Rattle.proposals.specs.Marks.{clear, may_sign}
use Rattle.proposals.specs.Asked.{Asked}
use Rattle.proposals.specs.declared.Signers.{Signers}
use Rattle.change_rules.proofs.Grants.{GrantPassed, appended_sound, stored_passed}
use Rattle.proposals.specs.Appending.{new_above, appended_covers}
use Rattle.proposals.specs.Permitting.{permits_out, permits_in, ownerless_carried}
use Rattle.proposals.specs.Helping.{helped_covering}
use Rattle.proposals.specs.Freeing.{least_free_least, least_free_greatest, least_free_alone}
use Rattle.proposals.specs.Forms.{form_out, form_in, help_out, help_in}
use Rattle.proposals.specs.Owners.{owner_kept}
use Rattle.proposals.specs.Ranges.{worth_rights, worth_has, known_id}

pub asked_out : (r : Register) (x : ℕ) (u : Usage) (moment : ℕ) (s : Signers) → outcome_of (ask_tests r x u moment s) ≡ Ok tt → Asked r x u moment
unfolding ask_tests asks_fit
asked_out r x u moment s h =
    let told = accepted_out (ask_tests r x u moment s) h in
    let parts = ands_out (leb s.count signer_limit ∷ leb u.resource id_limit ∷ is_right u.right ∷ ltb moment moment_end ∷ []) told.1.0 in
    record { judged = told.0; ranged = parts.1.0; right = parts.1.1.0; timely = parts.1.1.1.0; known = told.1.1.0 }

-- what must hold whoever signs, part by part
pub record Clear (r : Register) (x : ℕ) (u : Usage) (moment : ℕ) : Type 0 where
  pub owned : is_ownerless r x ≡ false
  pub owner_covers : owner_lacks r moment x u ≡ false
  pub room : ltb r.claims.count claim_limit ≡ true
  pub itself : contains r u.resource u.resource ≡ true

pub clear_out : (r : Register) (x : ℕ) (u : Usage) (moment : ℕ) → clear r x u moment ≡ true → Clear r x u moment
unfolding clear
clear_out r x u moment h =
    let told = ands_out (not (is_ownerless r x) ∷ not (owner_lacks r moment x u) ∷ ltb r.claims.count claim_limit ∷ contains r u.resource u.resource ∷ []) h in
    record {
      owned = not-true (is_ownerless r x) told.0;
      owner_covers = not-true (owner_lacks r moment x u) told.1.0;
      room = told.1.1.0;
      itself = told.1.1.1.0;
    }

pub clear_in : (r : Register) (x : ℕ) (u : Usage) (moment : ℕ) → Clear r x u moment → clear r x u moment ≡ true
unfolding clear
clear_in r x u moment h = rw (h.owned, h.owner_covers, h.room, h.itself)

-- where a grant of the form passes and the use alone is not permitted, it does hold
pub passing_clear : (r : Register) (x : ℕ) (u : Usage) (moment : ℕ) (s : Signers) (c : Claim) → Shaped r → permits r (one_use x u moment) ≡ false
    → passing_grant r x u moment s c ≡ true → clear r x u moment ≡ true
unfolding contains
passing_clear r x u moment s c shaped before h =
    let formed = form_out x u s c (and_left (of_form x u s c) (helping r x u moment c) h) in
    let helped = help_out r x u moment c (and_right (of_form x u s c) (helping r x u moment c) h) in
    let d : Claim = stored r.version (standing r) c in
    let taken = stored_passed r c moment helped.taken in
    let told = permits_out (appended r d) x u moment helped.after in
    let covers_itself = covering_out (appended r d) moment x u d (helped_covering r d x u moment shaped taken formed.held before helped.after) in
    clear_in r x u moment record {
      owned = ownerless_carried r (appended r d) x refl ∙ told.owned;
      owner_covers = sym (owner_kept r d moment x u shaped taken formed.held) ∙ told.owner_covers;
      room = helped.taken.room;
      itself = rw formed.on_used at covers_itself.containing;
    }

-- a claim's tests by itself, put together
fields_fit : (version : ℕ) (c : Claim) → is_id c.id ≡ true → leb c.parent id_limit ≡ true → is_id c.grantor ≡ true → is_id c.holder ≡ true
    → is_id c.resource ≡ true → is_rights c.rights ≡ true → leb c.weight weight_limit ≡ true
    → leb c.left left_limit ≡ true → ltb c.expiry moment_end ≡ true → claim_fits version c ≡ true
unfolding claim_fits
fields_fit version c named placed signed held on righted light short timed =
    and_both (is_id c.id) _ named (and_both (leb c.parent id_limit) _ placed (and_both (is_id c.grantor) _ signed (and_both (is_id c.holder) _ held
    (and_both (is_id c.resource) _ on (and_both (is_rights c.rights) _ righted (and_both (leb c.weight weight_limit) _ light
    (and_both (not (tells_left version) || leb c.left left_limit) _ (or_second (not (tells_left version)) (leb c.left left_limit) short)
    (and_both (ltb c.expiry moment_end) _ timed refl))))))))

stands_in : (w : World) (c : Claim) → w.known c.grantor ≡ true → w.known c.holder ≡ true → w.listed c.resource ≡ true → names_stand w c ≡ true
unfolding names_stand
stands_in w c h k l = rw (h, k, l)

fresh_free : (L : List Claim) (c : Claim) → any (λ d. eqb c.id d.id) L ≡ false → fresh L c ≡ true
unfolding fresh
fresh_free L c free = rw free

pub may_same : (r : Register) (u : Usage) (c : Claim) → c.rights ≡ worth_of u.right → machine_may (world_in r) c ≡ may_sign r u c.grantor
unfolding machine_may may_sign
may_same r u c e = rw e

pub one_fits : (r : Register) (x : ℕ) (u : Usage) (moment : ℕ) → Asked r x u moment → action_fits (one_use x u moment) ≡ true
unfolding action_fits
one_fits r x u moment asked =
    let ranged = known_id r asked.judged x asked.known in
    rw (and_right (leb 1 x) (leb x id_limit) ranged, asked.timely, asked.ranged, asked.right)

module _ (r : Register) (x : ℕ) (u : Usage) (moment : ℕ) (s : Signers) (shaped : Shaped r) (asked : Asked r x u moment) (fair : Clear r x u moment) (g : ℕ)
    (willing : any (eqb g) (signers_of s) ≡ true) where
  abbrev pub from : ℕ → ℕ → Claim
  from parent weight = candidate r x u g parent weight

  -- a candidate is accepted where its parent's number and weight are in range, its signer and its resource stand and what is asked over the claims holds
  pub from_passed : (parent weight : ℕ) → leb parent id_limit ≡ true → leb weight weight_limit ≡ true → is_id g ≡ true → (world_in r).known g ≡ true
      → is_id u.resource ≡ true → (world_in r).listed u.resource ≡ true → root_kept (world_in r) (from parent weight) ≡ true → may_sign r u g ≡ true
      → drawn r.version (standing r) (from parent weight) ≡ true → eqb parent 0 || source_live moment (above (standing r) (from parent weight)) ≡ true
      → GrantPassed r (from parent weight) moment
  from_passed parent weight placed light signer known on listed kept may over lives =
      let cs : List Claim = claims_of r.claims in
      let few : r.claims.count < claim_limit = ltb-true r.claims.count claim_limit fair.room in
      let most = least_free_greatest cs in
      let long : length cs ≤ r.claims.count = omega (arith, length-take r.claims.count r.claims.list) in
      record {
        judged = asked.judged;
        timely = asked.timely;
        room = fair.room;
        fitting = acceptable_in (world_in r) (standing r) (from parent weight) record {
          by_itself = record {
            fits = fields_fit r.version (from parent weight) (ranged_in 1 id_limit (least_free cs) (least_free_least cs) (omega (arith, most, long, few)))
                placed signer (known_id r asked.judged x asked.known) on (worth_rights u.right asked.right) light refl refl;
            stands = stands_in (world_in r) (from parent weight) known asked.known listed;
            kept = kept;
            granted = may_same r u (from parent weight) refl ∙ may;
          };
          over_earlier = record {
            apart = fresh_free (standing r) (from parent weight) (any_reverse (λ d. eqb (least_free cs) d.id) cs ∙ least_free_alone cs);
            chained = over;
          };
        };
        lives = lives;
      }

  -- an accepted candidate of some weight, over a chain that is current, passes
  pub accepted_passes : (parent weight : ℕ) → GrantPassed r (from parent weight) moment → 0 < weight
      → every (current moment) (above (standing r) (from parent weight)) ≡ true → passing_grant r x u moment s (from parent weight) ≡ true
  unfolding contains
  accepted_passes parent weight taken weighs lives =
      let c : Claim = from parent weight in
      let d : Claim = stored r.version (standing r) c in
      let put = stored_passed r c moment taken in
      let new : covering (appended r d) moment x u d ≡ true = covering_in (appended r d) moment x u d record {
        held = eq-eqb x x refl;
        lives = rw (new_above r d moment shaped put, lt-ltb 0 weight weighs) lives;
        has = worth_has u.right asked.right;
        containing = fair.itself;
      } in
      and_both (of_form x u s c) (helping r x u moment c) (form_in x u s c record { held = refl; on_used = refl; single = refl; signed = willing })
      (help_in r x u moment c record {
        taken = taken;
        after = permits_in (appended r d) x u moment record {
          passed = record { soundly = appended_sound r d moment put; fits = one_fits r x u moment asked; known = asked.known };
          owned = ownerless_carried (appended r d) r x refl ∙ fair.owned;
          covered = appended_covers r d moment shaped put moment x u ∙ or_second (covers r moment x u) (covering (appended r d) moment x u d) new;
          owner_covers = owner_kept r d moment x u shaped put refl ∙ fair.owner_covers;
        };
      })
