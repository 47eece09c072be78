-- The two laws of a register's text, and what follows from them. A register is taken apart into its version, its actors, its resources
-- and its claims, which are read one behind the other. Assumes nothing.
use Rattle.std.proofs.Common.{Err, Ok, ℕ, ◌-◌, ◌≤◌, ◌≡◌, refl, sym, ap, subst, ◌∙◌, true, List, [], ◌∷◌, ◌++◌, map, append-nil, arith, length, replicate, length-take-le}
use lib.ListN.{length-map}
use Rattle.lists.specs.Each.{all_imp, all_both, all_append, all_take, all_map, every_all}
use Rattle.lists.specs.Fills.{full_length, all_replicate}
use Rattle.lists.specs.Lists.{All}
use Rattle.register.specs.Limits.{actor_limit, resource_limit, claim_limit, path_limit}
use Rattle.register.specs.Register.{actors_of, resources_of, claims_of, path_of, claim_as, Same, no_actor, no_resource, no_claim, empty_register, resource_standing, Shaped}
use Rattle.register.specs.Chain.{latest}
use Rattle.register.specs.Laws.{empty_shaped, as_as}
use Rattle.register.specs.declared.Actor.{Actor}
use Rattle.register.specs.declared.Resource.{Resource}
use Rattle.register.specs.declared.Claim.{Claim}
use Rattle.register.specs.declared.Register.{Register}
use Rattle.soundness_rules.specs.Sound.{sound, human, resource_fits, each_stored}
use Rattle.soundness_rules.proofs.Alike.{stored_claims_as, stored_claims_length}
use Rattle.soundness_rules.proofs.Sameness.{sound_same}
use Rattle.soundness_rules.proofs.Registers.{sound_out, resource_fits_out}
use Rattle.refusals.proofs.Laws.{outcome_cases}
use Rattle.refusals.specs.declared.Refusal.{Refusal}
use Rattle.lines.specs.Reading.{State, going, Read, closed}
use Rattle.text_rules.specs.Keys.{actors_key, resources_key, claims_key}
use Rattle.text_rules.specs.Records.{texts, section_text}
use Rattle.text_rules.specs.Registers.{actor_forms, actor_numbers, resource_text, claim_forms, claim_numbers, held_actors, held_resources, held_claims, read_actors, read_resources, read_claims, version_form, register_from, register_text, register_read, register_ending}
use Rattle.text_rules.specs.declared.RegisterRead.{RegisterRead}
use Rattle.text_rules.proofs.Fitting.{ResourceLines, RegisterLines, register_lines_fit, lines_fit}
use Rattle.text_rules.specs.Things.{Codec, Pair, decided_codec, pair_codec}
use Rattle.text_rules.proofs.Forms.{form_codec, section_codec}
use Rattle.text_rules.proofs.Entries.{actor, actor_fits_lem, claim, claim_fits_lem, claims_as_text, claims_text, resource, cleaned, cleaned_fits, cleaned_text, cleaned_standing}
use Rattle.text_rules.specs.Holding.{held_entries}
use Rattle.text_rules.specs.Telling.{going_same, closed_going}
use Rattle.text_rules.proofs.Answering.{accepted_answer, refused_answer, sound_answer}

-- the parts of a register, in the order of its text
abbrev Lists : Type 0
Lists = Pair ℕ (Pair (List Actor) (Pair (List Resource) (List Claim)))

abbrev parts : Codec Lists
parts =
    decided_codec (form_codec version_form) (λ version.
    pair_codec (section_codec actors_key actor_limit actor) (pair_codec (section_codec resources_key resource_limit resource) (section_codec claims_key claim_limit (claim version))))

-- the register that holds parts, its claims with the hands that they have left; and the parts of a register that has zeros past its paths, its claims
-- as they count
abbrev holding : Lists → Register
holding p = record {
  actors = held_actors p.second.first;
  resources = held_resources p.second.second.first;
  claims = held_claims (latest (each_stored p.first (latest p.second.second.second)));
  version = p.first;
}

abbrev parts_of : Register → Lists
parts_of r = record {
  first = r.version;
  second = record {
    first = actors_of r.actors;
    second = record { first = map cleaned (resources_of r.resources); second = map (claim_as r.version) (claims_of r.claims) };
  };
}

from_parts : (t : List ℕ) → register_from t ≡ record { value = holding (parts.read (going t 1)).value; state = closed (parts.read (going t 1)).state }
unfolding register_from read_actors read_resources read_claims
from_parts t = refl

-- zeros past the paths change no text
cleaned_texts : (l : List Resource) → texts resource_text (map cleaned l) ≡ texts resource_text l
unfolding texts
cleaned_texts [] = refl
cleaned_texts (o ∷ l) = rw (cleaned_text o, cleaned_texts l)

cleaned_section : (l : List Resource) → section_text resources_key resource_limit resource_text (map cleaned l) ≡ section_text resources_key resource_limit resource_text l
cleaned_section l = rw (length-map l cleaned, cleaned_texts l)

text_parts : (r : Register) → register_text r ≡ parts.text (parts_of r)
unfolding register_text
text_parts r = rw (cleaned_section (resources_of r.resources), claims_as_text r.version (claims_of r.claims))

parts_fit : (r : Register) → RegisterLines r → parts.Fits (parts_of r)
parts_fit r h = record {
  one = h.version;
  other = record {
    one = record {
      few = h.few_actors;
      each = all_imp (λ a. lines_fit actor_forms (actor_numbers a) ≡ true) actor.Fits actor_fits_lem (actors_of r.actors) h.actors;
    };
    other = record {
      one = record {
        few = omega (arith, length-map (resources_of r.resources) cleaned, h.few_resources);
        each = all_map cleaned resource.Fits (resources_of r.resources)
            (all_imp ResourceLines (λ o. resource.Fits (cleaned o)) cleaned_fits (resources_of r.resources) h.resources);
      };
      other = record {
        few = omega (arith, length-map (claims_of r.claims) (claim_as r.version), h.few_claims);
        each = all_map (claim_as r.version) (claim r.version).Fits (claims_of r.claims)
            (all_imp (λ c. lines_fit (claim_forms r.version) (claim_numbers r.version c) ≡ true) (λ c. (claim r.version).Fits (claim_as r.version c))
            (claim_fits_lem r.version) (claims_of r.claims) h.claims);
      };
    };
  };
}

-- the text of a sound register is read to its end, and gives its parts
record WholeRead (r : Register) : Type 0 where
  pub at : ℕ
  pub from : register_from (register_text r) ≡ record { value = holding (parts_of r); state = going [] at }

whole_read : (r : Register) → sound r ≡ true → WholeRead r
whole_read r h =
    let reads = parts.reads (parts_of r) [] 1 (parts_fit r (register_lines_fit r h)) in
    let text : register_text r ≡ parts.text (parts_of r) ++ [] = text_parts r ∙ sym (append-nil (parts.text (parts_of r))) in
    record {
      at = reads.next;
      from = ap register_from text
          ∙ from_parts (parts.text (parts_of r) ++ [])
          ∙ ap (λ (p : Lists). record { value = holding p; state = closed (parts.read (going (parts.text (parts_of r) ++ []) 1)).state }) reads.value
          ∙ ap (λ (st : State). record { value = holding (parts_of r); state = closed st }) reads.state;
    }

-- a register and the register of its parts are the same
cleaned_standings : (l : List Resource) → All (λ o. o.len ≤ length o.path) l → map resource_standing (map cleaned l) ≡ map resource_standing l
cleaned_standings [] h = refl
cleaned_standings (o ∷ l) h = rw (cleaned_standing o h.0, cleaned_standings l h.1)

room : (r : Register) → sound r ≡ true → Shaped r → All (λ o. o.len ≤ length o.path) (resources_of r.resources)
room r h shaped =
    let people = human (actors_of r.actors) in
    all_both (λ o. resource_fits people o ≡ true) (λ o. length o.path ≡ path_limit) (λ o. o.len ≤ length o.path)
    (λ o fits size. omega (arith, (resource_fits_out people o fits).len_greatest)) (resources_of r.resources)
    (every_all (resource_fits people) (resources_of r.resources) (sound_out r h).resources.fit)
    (all_take (λ o. length o.path ≡ path_limit) r.resources.count r.resources.list shaped.paths)

holding_same : (r : Register) → sound r ≡ true → Shaped r → Same (holding (parts_of r)) r
holding_same r h shaped =
    let limits = (sound_out r h).limits in
    let kept = map cleaned (resources_of r.resources) in
    let counting : List Claim = map (claim_as r.version) (claims_of r.claims) in
    let filled : List Claim = latest (each_stored r.version (latest counting)) in
    record {
      actor_count = length-take-le r.actors.count r.actors.list (omega (arith, limits.actor_count, shaped.actors));
      actors = held_entries (actors_of r.actors) (actor_limit - length (actors_of r.actors)) no_actor;
      resource_count = length-map (resources_of r.resources) cleaned
          ∙ length-take-le r.resources.count r.resources.list (omega (arith, limits.resource_count, shaped.resources));
      resources = ap (map resource_standing) (held_entries kept (resource_limit - length kept) no_resource) ∙ cleaned_standings (resources_of r.resources) (room r h shaped);
      claim_count = stored_claims_length r.version counting ∙ length-map (claims_of r.claims) (claim_as r.version)
          ∙ length-take-le r.claims.count r.claims.list (omega (arith, limits.claim_count, shaped.claims));
      claims = ap (map (claim_as r.version)) (held_entries filled (claim_limit - length filled) no_claim) ∙ stored_claims_as r.version counting
          ∙ as_as r.version (claims_of r.claims);
      version = refl;
    }

-- reading what was written: accepted, and the register of its parts
written_answer_lem : (r : Register) → sound r ≡ true → Shaped r → register_read (register_text r) ≡ record { register = holding (parts_of r); outcome = Ok tt; line = 0 }
unfolding register_read
written_answer_lem r h shaped =
    let read = whole_read r h in
    ap (λ (x : Read Register). register_ending x.value x.state) read.from
    ∙ sound_answer (holding (parts_of r)) [] read.at (sound_same (holding (parts_of r)) r (holding_same r h shaped) ∙ h)

pub written_accepted : (r : Register) → sound r ≡ true → Shaped r → (register_read (register_text r)).outcome ≡ Ok tt
written_accepted r h shaped = ap (λ (x : RegisterRead). x.outcome) (written_answer_lem r h shaped)

pub read_written : (r : Register) → sound r ≡ true → Shaped r → Same (register_read (register_text r)).register r
read_written r h shaped = subst (λ (x : RegisterRead). Same x.register r) (sym (written_answer_lem r h shaped)) (holding_same r h shaped)

-- the text of the register that holds parts is the text of the parts
holding_text : (p : Lists) → register_text (holding p) ≡ parts.text p
unfolding register_text
holding_text p =
    let actors = p.second.first in
    let resources = p.second.second.first in
    let claims = p.second.second.second in
    let filled : List Claim = latest (each_stored p.first (latest claims)) in
    rw (
      held_entries actors (actor_limit - length actors) no_actor,
      held_entries resources (resource_limit - length resources) no_resource,
      held_entries filled (claim_limit - length filled) no_claim,
      claims_text p.first filled claims (stored_claims_as p.first claims),
    )

-- the arrays of the register that holds parts are full
path_full : (o : Resource) → resource.Fits o → length o.path ≡ path_limit
path_full o h = ap (λ (x : Resource). length x.path) (sym h.clean) ∙ full_length (path_of o) path_limit 0 h.whole.other.short

holding_shaped : (p : Lists) → parts.Fits p → Shaped (holding p)
holding_shaped p h =
    let resources = p.second.second.first in
    record {
      actors = full_length p.second.first actor_limit no_actor h.other.one.few;
      resources = full_length resources resource_limit no_resource h.other.other.one.few;
      paths = all_append (λ o. length o.path ≡ path_limit) resources (replicate (resource_limit - length resources) no_resource)
          (all_imp resource.Fits (λ o. length o.path ≡ path_limit) path_full resources h.other.other.one.each)
          (all_replicate (λ o. length o.path ≡ path_limit) (resource_limit - length resources) no_resource refl);
      claims = full_length (latest (each_stored p.first (latest p.second.second.second))) claim_limit no_claim
          (omega (arith, stored_claims_length p.first p.second.second.second, h.other.other.other.few));
    }

-- a text that reads: the register read is sound, and the text is its text
pub record TextOf (t : List ℕ) (r : Register) : Type 0 where
  pub fine : sound r ≡ true
  pub shaped : Shaped r
  pub text : register_text r ≡ t

pub accepted_text : (t : List ℕ) → (register_read t).outcome ≡ Ok tt → TextOf t (register_read t).register
unfolding register_read
accepted_text t h =
    let read = register_from t in
    let p = (parts.read (going t 1)).value in
    let answer = accepted_answer read.value read.state h in
    let value : read.value ≡ holding p = ap (λ (x : Read Register). x.value) (from_parts t) in
    let ends : closed (parts.read (going t 1)).state ≡ going answer.rest answer.at = sym (ap (λ (x : Read Register). x.state) (from_parts t)) ∙ answer.goes in
    let stood = parts.stood (going t 1) [] answer.at (closed_going (parts.read (going t 1)).state answer.rest answer.at ends) in
    let text : register_text (holding p) ≡ t =
    holding_text p ∙ sym (append-nil (parts.text p)) ∙ sym (going_same t (parts.text p ++ []) 1 stood.at stood.before) in
    let same : (register_read t).register ≡ holding p = answer.same ∙ value in
    subst (TextOf t) (sym same) (record {
      fine = ap sound (sym value) ∙ answer.fine;
      shaped = holding_shaped p stood.fits;
      text = text;
    })

pub refused_register : (t : List ℕ) (why : Refusal) → (register_read t).outcome ≡ Err why → (register_read t).register ≡ empty_register
unfolding register_read
refused_register t why h = refused_answer (register_from t).value (register_from t).state why h

pub read_shaped : (t : List ℕ) → Shaped (register_read t).register
read_shaped t = outcome_cases (register_read t).outcome (λ e. (accepted_text t e).shaped)
    (λ why e. subst Shaped (sym (refused_register t why e)) empty_shaped)
