-- Actors, resources and claims as things with one text. A resource that is read holds zeros past its path, and a claim of version 1
-- holds 0 as left: the text does not tell what stood there. Assumes nothing.
use Rattle.std.proofs.Common.{ℕ, ◌-◌, ◌≤◌, ◌≡◌, refl, sym, ap, subst, ◌∙◌, List, [], ◌∷◌, map, true, length, take, replicate, length-take-le}
use lib.ListN.{length-map}
use lib.Seq.{take-append_seam}
use Rattle.lists.specs.Tests.{cases}
use Rattle.register.specs.Limits.{claim_limit, path_limit, tells_left}
use Rattle.register.specs.Register.{path_of, claim_as, resource_standing}
use Rattle.register.specs.declared.Actor.{Actor}
use Rattle.register.specs.declared.Resource.{Resource}
use Rattle.register.specs.declared.Claim.{Claim}
use Rattle.lines.specs.Reading.{State}
use Rattle.lines.specs.Lines.{held_path}
use Rattle.text_rules.specs.Keys.{claims_key}
use Rattle.text_rules.specs.Records.{values, passed, texts, section_text}
use Rattle.text_rules.specs.Registers.{actor_forms, actor_numbers, actor_from, resource_forms, resource_numbers, resource_from, resource_text, claim_forms, claim_numbers, claim_from, claim_text}
use Rattle.text_rules.proofs.Fitting.{ResourceLines, lines_fit}
use Rattle.text_rules.specs.Things.{Codec, Pair, pair_codec, made_codec}
use Rattle.text_rules.proofs.Forms.{scope_codec, lines_codec}

-- an actor: numbers in lines
pub actor_back : (st : State) → actor_numbers (actor_from (values actor_forms st)) ≡ values actor_forms st
unfolding values
actor_back st = refl

abbrev pub actor : Codec Actor
actor = made_codec (lines_codec actor_forms) actor_from actor_numbers actor_back

pub actor_fits_lem : (a : Actor) → lines_fit actor_forms (actor_numbers a) ≡ true → actor.Fits a
actor_fits_lem a h = record { whole = record { count = refl; each = h }; clean = refl }

-- a claim in a version: outside version 2 what it holds as left does not stand in its text
pub claim_back : (version : ℕ) (st : State) → claim_numbers version (claim_from version (values (claim_forms version) st)) ≡ values (claim_forms version) st
unfolding values
claim_back version st = cases (tells_left version) (λ e. rw e) (λ e. rw e)

abbrev pub claim : ℕ → Codec Claim
claim version = made_codec (lines_codec (claim_forms version)) (claim_from version) (claim_numbers version) (claim_back version)

numbers_as : (version : ℕ) (c : Claim) → claim_numbers version (claim_as version c) ≡ claim_numbers version c
numbers_as version c = cases (tells_left version) (λ e. rw e) (λ e. rw e)

-- a claim as it counts in the version
pub claim_fits_lem : (version : ℕ) (c : Claim) → lines_fit (claim_forms version) (claim_numbers version c) ≡ true → (claim version).Fits (claim_as version c)
claim_fits_lem version c h = record {
  whole = record {
    count = cases (tells_left version) (λ e. rw e) (λ e. rw e);
    each = ap (lines_fit (claim_forms version)) (numbers_as version c) ∙ h;
  };
  clean = cases (tells_left version) (λ e. rw e) (λ e. rw e);
}

-- its text is the same
claim_texts_as : (version : ℕ) (l : List Claim) → texts (claim_text version) (map (claim_as version) l) ≡ texts (claim_text version) l
unfolding texts
claim_texts_as version [] = refl
claim_texts_as version (c ∷ l) = rw (numbers_as version c, claim_texts_as version l)

pub claims_as_text : (version : ℕ) (l : List Claim)
    → section_text claims_key claim_limit (claim_text version) (map (claim_as version) l) ≡ section_text claims_key claim_limit (claim_text version) l
claims_as_text version l = rw (length-map l (claim_as version), claim_texts_as version l)

-- claims that count alike have one text
pub claims_text : (version : ℕ) (l m : List Claim) → map (claim_as version) l ≡ map (claim_as version) m
    → section_text claims_key claim_limit (claim_text version) l ≡ section_text claims_key claim_limit (claim_text version) m
claims_text version l m e = sym (claims_as_text version l) ∙ ap (section_text claims_key claim_limit (claim_text version)) e ∙ claims_as_text version m

-- a resource: numbers in lines, then its path
abbrev pub resource_of : Pair (List ℕ) (List ℕ) → Resource
resource_of p = resource_from p.first p.second

abbrev pub resource_parts : Resource → Pair (List ℕ) (List ℕ)
resource_parts o = record { first = resource_numbers o; second = path_of o }

pub held_path_lem : (p : List ℕ) → take (length p) (held_path p) ≡ p
held_path_lem p = take-append_seam p (replicate (path_limit - length p) 0)

pub resource_back : (st : State) → resource_parts (resource_of ((pair_codec (lines_codec resource_forms) scope_codec).read st).value) ≡ ((pair_codec (lines_codec resource_forms) scope_codec).read st).value
unfolding values
resource_back st =
    let numbers = values resource_forms st in
    ap (λ (p : List ℕ). record { first = numbers; second = p }) (held_path_lem (scope_codec.read (passed resource_forms st)).value)

abbrev pub resource : Codec Resource
resource = made_codec (pair_codec (lines_codec resource_forms) scope_codec) resource_of resource_parts resource_back

-- a resource with zeros past its path
abbrev pub cleaned : Resource → Resource
cleaned o = resource_of (resource_parts o)

cleaned_parts : (o : Resource) → resource_parts (cleaned o) ≡ resource_parts o
cleaned_parts o = ap (λ (p : List ℕ). record { first = resource_numbers o; second = p }) (held_path_lem (path_of o))

pub cleaned_fits : (o : Resource) → ResourceLines o → resource.Fits (cleaned o)
cleaned_fits o h = record {
  whole = subst (pair_codec (lines_codec resource_forms) scope_codec).Fits (sym (cleaned_parts o)) (record {
    one = record { count = refl; each = h.numbers };
    other = record { bytes = h.bytes; short = h.short };
  });
  clean = ap resource_of (cleaned_parts o);
}

-- its text is the same
pub cleaned_text : (o : Resource) → resource_text (cleaned o) ≡ resource_text o
cleaned_text o = ap (pair_codec (lines_codec resource_forms) scope_codec).text (cleaned_parts o)

-- and it stands as it did, where its array has room for the path
pub cleaned_standing : (o : Resource) → o.len ≤ length o.path → resource_standing (cleaned o) ≡ resource_standing o
cleaned_standing o room =
    ap (λ (n : ℕ). record { id = o.id; public = o.public; keeper = o.keeper; len = n; path = take (length (path_of o)) (held_path (path_of o)) }) (length-take-le o.len o.path room)
    ∙ ap (λ (p : List ℕ). record { id = o.id; public = o.public; keeper = o.keeper; len = o.len; path = p }) (held_path_lem (path_of o))
