-- What is signed, signer by signer, and the planner's answers case by case. Assumes nothing.
use Rattle.std.proofs.Common.{◌≡◌, refl, sym, ap, ◌∙◌, Bool, true, false, not, ◌&&◌, Option, Some, None, Err, Ok, List, [], ◌∷◌, ℕ, ◌+◌, ◌≤◌, ◌<◌, arith, lt-ltb, le-ltb, eqb, ltb, length, take, drop, get_or}
use mathlib.Core.Bool.{and-false}
use Rattle.lists.specs.Lists.{any}
use Rattle.lists.specs.Loops.{drop_at}
use Rattle.rights.specs.Rights.{worth_of}
use Rattle.register.specs.Limits.{claim_limit}
use Rattle.register.specs.Register.{no_claim}
use Rattle.register.specs.declared.Claim.{Claim}
use Rattle.register.specs.declared.Register.{Register}
use Rattle.columns.specs.Sheet.{column_of, claims_in, grantor_column, holder_column}
use Rattle.refusals.specs.Refusals.{outcome_of}
use Rattle.refusals.specs.declared.Refusal.{Refusal}
use Rattle.refusals.specs.declared.Refusal.TheVariants.{NoProposal}
use Rattle.actions.specs.Actions.{one_use}
use Rattle.actions.specs.declared.Usage.{Usage}
use Rattle.gate_rules.specs.Gate.{is_ownerless, owner_lacks, contains}
use Rattle.soundness.specs.Opened.{Opened}
use Rattle.soundness.specs.Laws.{judged_sound, judged_actors, judged_resources}
use Rattle.soundness.specs.Judged.{findings_by}
use Rattle.soundness.specs.declared.Findings.{Findings}
use Rattle.claim_judging.specs.AloneLaws.{world_natural}
use Rattle.gate.specs.Judged.{counts_of, sheet_ends}
use Rattle.gate.specs.declared.Counts.{Counts}
use Rattle.proposals.specs.Proposals.{signers_of, asks_fit, ask_tests, permits, least_free, no_grant, a_grant, proposes, unproposed, proposed_first}
use Rattle.proposals.specs.Marks.{clear, or_else, first_signed, by_marks_on, by_marks}
use Rattle.proposals.specs.declared.Proposed.{Proposed}
use Rattle.proposals.specs.declared.Signers.{Signers}
use Rattle.proposing.specs.Planned.{tests_on, Ready, hands_taken, rooms_of, marks_by, signing_by, signed_through, first_claim, rooms_by, marks_for, drawn_by}
use Rattle.proposing.proofs.Marking.{drawn_natural}

-- ---- the signers one after the other

-- the loop has come to signer i of top: what is answered of all is what is answered of those from there on
pub record Hearing (f : ℕ → List Claim) (s : Signers) (top i : ℕ) : Type 0 where
  pub within : i ≤ top
  pub whole : top ≡ length (signers_of s)
  pub ahead : proposed_first (signed_through f (signers_of s)) ≡ proposed_first (signed_through f (drop i (signers_of s)))

-- a claim, or none
signs : (L rest : List Claim) (c : Claim) → first_claim L ≡ Some c → proposes (a_grant c) ≡ proposed_first (or_else L rest)
signs [] rest c e = absurd (cc)
signs (d ∷ L) rest c e = let same : d ≡ c = cc in rw same

passes : (L rest : List Claim) → first_claim L ≡ None → proposed_first (or_else L rest) ≡ proposed_first rest
passes [] rest e = refl
passes (d ∷ L) rest e = absurd (cc)

module _ {f : ℕ → List Claim} {s : Signers} {top : ℕ} where
  module _ {i : ℕ} (h : Hearing f s top i) where
    module _ (inside : i < top) where
      next_signer : drop i (signers_of s) ≡ get_or s.list i 0 ∷ drop (i + 1) (signers_of s)
      next_signer = drop_at s.count s.list i 0 (omega (arith, inside, h.whole))

      here : proposed_first (signed_through f (signers_of s)) ≡ proposed_first (or_else (f (get_or s.list i 0)) (signed_through f (drop (i + 1) (signers_of s))))
      here = h.ahead ∙ ap (λ l. proposed_first (signed_through f l)) next_signer

      -- what the signer g signs, who is read there
      module _ {signed : Option Claim} {g : ℕ} (read : g ≡ get_or s.list i 0) (e : signed ≡ first_claim (f g)) where
        signed_here : first_claim (f (get_or s.list i 0)) ≡ signed
        signed_here = ap (λ k. first_claim (f k)) (sym read) ∙ sym e

        pub hearing_hit : {c : Claim} → signed ≡ Some c → proposes (a_grant c) ≡ proposed_first (signed_through f (signers_of s))
        hearing_hit {c} some = signs (f (get_or s.list i 0)) (signed_through f (drop (i + 1) (signers_of s))) c (signed_here ∙ some) ∙ sym here

        pub hearing_miss : signed ≡ None → Hearing f s top (i + 1)
        hearing_miss none =
            record {
              within = omega arith;
              whole = h.whole;
              ahead = here ∙ passes (f (get_or s.list i 0)) (signed_through f (drop (i + 1) (signers_of s))) (signed_here ∙ none);
            }

-- ---- what is drawn, step by step
module _ (version : ℕ) (counts : Counts) (found : Findings) (s : List ℕ) (x : ℕ) (u : Usage) (moment : ℕ) (signers : Signers)
    {grantors holders ends rooms : List ℕ} {step id rights : ℕ} {marks : List Bool} {none : Claim} {answer : Proposed} where
  pub drawn_told : grantors ≡ column_of grantor_column s → holders ≡ column_of holder_column s → ends ≡ sheet_ends s found.ups counts.claims
      → step ≡ hands_taken version → rooms ≡ rooms_of step x found.ups grantors holders counts.claims
      → marks ≡ marks_by version u moment s ends rooms counts.claims
      → id ≡ least_free (take counts.claims (claims_in s)) → rights ≡ worth_of u.right → none ≡ no_claim
      → answer ≡ proposed_first (signed_through (signing_by counts found s marks (record {
        id = id;
        parent = none.parent;
        grantor = none.grantor;
        holder = x;
        resource = u.resource;
        rights = rights;
        weight = none.weight;
        left = none.left;
        expiry = none.expiry;
      })) (signers_of signers))
      → answer ≡ proposed_first (drawn_by version counts found s x u moment (signers_of signers))
  unfolding drawn_by
  drawn_told of-grantors of-holders of-ends of-step of-rooms of-marks of-id of-rights of-none answered =
      let found_rooms : rooms ≡ rooms_by version counts found s x = of-rooms ∙ rw (of-step, of-grantors, of-holders) in
      let found_marks : marks ≡ marks_for version counts found s x u moment = of-marks ∙ rw (of-ends, found_rooms) in
      answered ∙ rw (found_marks, of-id, of-rights, of-none)

-- ---- the tests
pub asked_told : (r : Register) (x : ℕ) (u : Usage) (moment : ℕ) (s : Signers) {sheet : List ℕ} {found : Findings} → Opened r sheet found
    → length r.claims.list ≡ claim_limit → {inside known : Bool} → inside ≡ asks_fit u moment s
    → known ≡ any (eqb x) (take r.actors.count found.actors.names)
    → outcome_of (tests_on found.sound inside known) ≡ outcome_of (ask_tests r x u moment s)
unfolding ask_tests
asked_told r x u moment s opened places of-inside of-known =
    rw (
      judged_sound r opened places,
      of-inside,
      of-known ∙ ap (λ w. w.known x) (world_natural r.version r.actors r.resources (judged_actors r opened) (judged_resources r opened)),
    )

-- ---- the answers
four : (a b c d : Bool) → a && (b && (c && (d && true))) ≡ ((a && b) && c) && d
four false b c d = refl
four true false c d = refl
four true true false d = refl
four true true true true = refl
four true true true false = refl

-- ---- whether anything may be signed at all
module _ (r : Register) (x : ℕ) (u : Usage) (moment : ℕ) where
  abbrev owns : Bool
  owns = not (is_ownerless r x) && not (owner_lacks r moment x u)

  clear_joined : clear r x u moment ≡ (owns && ltb r.claims.count claim_limit) && contains r u.resource u.resource
  unfolding clear
  clear_joined = four (not (is_ownerless r x)) (not (owner_lacks r moment x u)) (ltb r.claims.count claim_limit) (contains r u.resource u.resource)

  pub clear_full : claim_limit ≤ r.claims.count → false ≡ clear r x u moment
  clear_full h = sym (clear_joined ∙ rw (le-ltb r.claims.count claim_limit h, and-false owns))

  pub clear_dotted : contains r u.resource u.resource ≡ false → false ≡ clear r x u moment
  clear_dotted e = sym (clear_joined ∙ rw e (and-false (owns && ltb r.claims.count claim_limit)))

  pub clear_owned : r.claims.count < claim_limit → contains r u.resource u.resource ≡ true → owns ≡ clear r x u moment
  clear_owned room clean = sym (clear_joined ∙ rw (lt-ltb r.claims.count claim_limit room, clean) (whole owns))
    where
      whole : (b : Bool) → (b && true) && true ≡ b
      whole true = refl
      whole false = refl

module _ (r : Register) (x : ℕ) (u : Usage) (moment : ℕ) (s : Signers) where
  pub marks_stopped : (why : Refusal) → outcome_of (ask_tests r x u moment s) ≡ Err why → unproposed why ≡ by_marks r x u moment s
  unfolding by_marks
  marks_stopped why e = sym (ap (λ o. by_marks_on o r x u moment s) e)

  module _ (passed : outcome_of (ask_tests r x u moment s) ≡ Ok tt) where
    pub marks_permitted : permits r (one_use x u moment) ≡ true → proposes no_grant ≡ by_marks r x u moment s
    unfolding by_marks
    marks_permitted k = sym (ap (λ o. by_marks_on o r x u moment s) passed ∙ rw k)

    module _ (k : permits r (one_use x u moment) ≡ false) where
      pub marks_barred : clear r x u moment ≡ false → unproposed NoProposal ≡ by_marks r x u moment s
      unfolding by_marks
      marks_barred e = sym (ap (λ o. by_marks_on o r x u moment s) passed ∙ rw (k, e))

      pub marks_drawn : clear r x u moment ≡ true → proposed_first (first_signed r x u moment (signers_of s)) ≡ by_marks r x u moment s
      unfolding by_marks
      marks_drawn e = sym (ap (λ o. by_marks_on o r x u moment s) passed ∙ rw (k, e))

  -- what is drawn by the sheet and the findings is drawn by the register
  pub drawn_read : {sheet : List ℕ} {found : Findings} → Ready r sheet found x u moment
      → proposed_first (drawn_by r.version (counts_of r) found sheet x u moment (signers_of s)) ≡ proposed_first (first_signed r x u moment (signers_of s))
  drawn_read {sheet} ready =
      ap (λ f. proposed_first (drawn_by r.version (counts_of r) f sheet x u moment (signers_of s))) ready.opened.told
      ∙ ap (λ l. proposed_first (drawn_by r.version (counts_of r) (findings_by r.version r.actors r.resources l r.claims.count) l x u moment (signers_of s))) ready.opened.put
      ∙ ap proposed_first (drawn_natural r ready.shaped ready.asked.judged x u moment ready.asked.timely (signers_of s))
