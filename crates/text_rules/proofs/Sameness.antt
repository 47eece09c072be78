-- Registers that are the same have one text, and registers with one text are the same; so with actions. Assumes nothing.
use Rattle.std.proofs.Common.{ℕ, ◌≡◌, refl, sym, ap, subst, ◌∙◌, true, List, [], ◌∷◌, ◌++◌, map, length}
use lib.ListN.{length-map}
use Rattle.register.specs.Limits.{actor_limit, resource_limit, claim_limit}
use Rattle.register.specs.Register.{actors_of, resources_of, claims_of, claim_as, Standing, resource_standing, Same, Shaped}
use Rattle.register.specs.declared.Resource.{Resource}
use Rattle.register.specs.declared.Register.{Register}
use Rattle.soundness_rules.specs.Sound.{sound}
use Rattle.actions.specs.Actions.{action_fits, SameAction}
use Rattle.actions.specs.declared.Action.{Action}
use Rattle.lines.specs.Lines.{scope_line}
use Rattle.lines.specs.Reading.{count, form_line}
use Rattle.text_rules.specs.Keys.{actors_key, resources_key, claims_key}
use Rattle.text_rules.specs.Records.{lines_text, texts, section_text}
use Rattle.text_rules.specs.Registers.{actor_text, resource_forms, resource_text, claim_text, version_form, register_text, register_read}
use Rattle.text_rules.specs.Actions.{ShapedAction, action_text, action_read}
use Rattle.text_rules.proofs.ActionCodec.{pieces_same}
use Rattle.text_rules.proofs.ActionTexts.{same_action_sym, same_action_trans}
use Rattle.text_rules.proofs.Entries.{claims_as_text}
use Rattle.text_rules.proofs.RegisterLaws.{read_written}
use Rattle.text_rules.proofs.ActionLaws as actions

pub same_sym : (r s : Register) → Same r s → Same s r
same_sym r s same = record {
  actor_count = sym same.actor_count;
  actors = sym same.actors;
  resource_count = sym same.resource_count;
  resources = sym same.resources;
  claim_count = sym same.claim_count;
  claims = sym same.claims;
  version = sym same.version;
}

pub same_trans : (q r s : Register) → Same q r → Same r s → Same q s
same_trans q r s one other = record {
  actor_count = one.actor_count ∙ other.actor_count;
  actors = one.actors ∙ other.actors;
  resource_count = one.resource_count ∙ other.resource_count;
  resources = one.resources ∙ other.resources;
  claim_count = one.claim_count ∙ other.claim_count;
  claims = one.claims ∙ other.claims;
  version = one.version ∙ other.version;
}

-- the text of a resource is that of the resource as it stands
abbrev standing_text : Standing → List ℕ
standing_text o = lines_text resource_forms (o.id ∷ o.public ∷ o.keeper ∷ []) ++ scope_line o.path

standing_texts : (l : List Resource) → texts resource_text l ≡ texts standing_text (map resource_standing l)
unfolding texts
standing_texts [] = refl
standing_texts (o ∷ l) = ap (λ (t : List ℕ). resource_text o ++ t) (standing_texts l)

standing_section : (l : List Resource) →
    section_text resources_key resource_limit resource_text l ≡ section_text resources_key resource_limit standing_text (map resource_standing l)
standing_section l =
    ap (λ (t : List ℕ). form_line (count resources_key resource_limit) (length l) ++ t) (standing_texts l)
    ∙ ap (λ (n : ℕ). form_line (count resources_key resource_limit) n ++ texts standing_text (map resource_standing l)) (sym (length-map l resource_standing))

-- the text of claims is that of the claims as they count
claims_section_same : (r s : Register) → Same r s
    → section_text claims_key claim_limit (claim_text r.version) (claims_of r.claims) ≡ section_text claims_key claim_limit (claim_text s.version) (claims_of s.claims)
claims_section_same r s same =
    sym (claims_as_text r.version (claims_of r.claims))
    ∙ ap (section_text claims_key claim_limit (claim_text r.version)) same.claims
    ∙ ap (λ (n : ℕ). section_text claims_key claim_limit (claim_text n) (map (claim_as s.version) (claims_of s.claims))) same.version
    ∙ claims_as_text s.version (claims_of s.claims)

-- the same registers have one text
pub same_text : (r s : Register) → Same r s → register_text r ≡ register_text s
unfolding register_text
same_text r s same =
    ap (λ (t : List ℕ). form_line version_form r.version ++ t) (pieces_same _ _ _ _ _ _
    (ap (section_text actors_key actor_limit actor_text) same.actors)
    (standing_section (resources_of r.resources) ∙ ap (section_text resources_key resource_limit standing_text) same.resources
    ∙ sym (standing_section (resources_of s.resources)))
    (claims_section_same r s same))
    ∙ ap (λ (n : ℕ). form_line version_form n ++ (section_text actors_key actor_limit actor_text (actors_of s.actors)
    ++ (section_text resources_key resource_limit resource_text (resources_of s.resources)
    ++ section_text claims_key claim_limit (claim_text s.version) (claims_of s.claims)))) same.version

-- one text has the same registers
pub text_same : (r s : Register) → sound r ≡ true → Shaped r → sound s ≡ true → Shaped s → register_text r ≡ register_text s → Same r s
text_same r s fine shaped other full e =
    same_trans r (register_read (register_text s)).register s
    (subst (λ (t : List ℕ). Same r (register_read t).register) e (same_sym (register_read (register_text r)).register r (read_written r fine shaped)))
    (read_written s other full)

-- one text has the same actions
pub text_same_action : (a b : Action) → action_fits a ≡ true → ShapedAction a → action_fits b ≡ true → ShapedAction b → action_text a ≡ action_text b → SameAction a b
text_same_action a b fine shaped other full e =
    same_action_trans a (action_read (action_text b)).action b
    (subst (λ (t : List ℕ). SameAction a (action_read t).action) e (same_action_sym (action_read (action_text a)).action a (actions.read_written a fine shaped)))
    (actions.read_written b other full)
