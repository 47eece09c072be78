-- Believed: The text of a register, and how a text is read as one, in 01's words.
use Rattle.std.specs.Prelude.{ℕ, ◌-◌, ◌^◌, List, [], ◌∷◌, ◌++◌, cond, length, get_or, replicate, Err, Ok}
use Rattle.register.specs.Limits.{actor_limit, resource_limit, claim_limit, id_limit, weight_limit, left_limit, version_one, version_two, tells_left, moment_end}
use Rattle.register.specs.Register.{actors_of, resources_of, claims_of, path_of, no_actor, no_resource, no_claim, empty_register}
use Rattle.register.specs.Chain.{latest}
use Rattle.register.specs.declared.Actor.{Actor}
use Rattle.register.specs.declared.Resource.{Resource}
use Rattle.register.specs.declared.Claim.{Claim}
use Rattle.register.specs.declared.Actors.{Actors}
use Rattle.register.specs.declared.Resources.{Resources}
use Rattle.register.specs.declared.Claims.{Claims}
use Rattle.register.specs.declared.Register.{Register}
use Rattle.rights.specs.Rights.{right_count}
use Rattle.soundness_rules.specs.Sound.{sound, each_stored}
use Rattle.refusals.specs.declared.Refusal.TheVariants.{Unsound}
use Rattle.lines.specs.Lines.{scope_line, held_path}
use Rattle.lines.specs.Reading.{State, going, failed, Read, LineForm, number, kind, read_form, form_line, read_scope, closed}
use Rattle.text_rules.specs.Keys.{register_key, actors_key, actor_key, owner_key, resources_key, resource_key, public_key, keeper_key, claims_key, claim_key, parent_key, grantor_key, holder_key, rights_key, weight_key, left_key, expiry_key}
use Rattle.text_rules.specs.Records.{values, passed, lines_text, section, section_text}
use Rattle.text_rules.specs.declared.RegisterRead.{RegisterRead}

-- per actor `actor`, `kind` (human or machine), `owner`
abbrev pub actor_forms : List LineForm
actor_forms =
    number actor_key 1 id_limit
    ∷ kind
    ∷ number owner_key 0 id_limit
    ∷ []

abbrev pub actor_numbers : Actor → List ℕ
actor_numbers a = a.id ∷ a.kind ∷ a.owner ∷ []

abbrev pub actor_from : List ℕ → Actor
actor_from ns = record { id = get_or ns 0 0; kind = get_or ns 1 0; owner = get_or ns 2 0 }

abbrev pub read_actor : State → Read Actor
read_actor st = record { value = actor_from (values actor_forms st); state = passed actor_forms st }

abbrev pub actor_text : Actor → List ℕ
actor_text a = lines_text actor_forms (actor_numbers a)

-- per resource `resource`, `public` (0 or 1), `keeper`, `scope`
abbrev pub resource_forms : List LineForm
resource_forms =
    number resource_key 1 id_limit
    ∷ number public_key 0 1
    ∷ number keeper_key 1 id_limit
    ∷ []

abbrev pub resource_numbers : Resource → List ℕ
resource_numbers o = o.id ∷ o.public ∷ o.keeper ∷ []

abbrev pub resource_from : List ℕ → List ℕ → Resource
resource_from ns path = record { id = get_or ns 0 0; public = get_or ns 1 0; keeper = get_or ns 2 0; len = length path; path = held_path path }

abbrev pub read_resource : State → Read Resource
read_resource st =
    let scope = read_scope (passed resource_forms st) in
    record { value = resource_from (values resource_forms st) scope.value; state = scope.state }

abbrev pub resource_text : Resource → List ℕ
resource_text o = lines_text resource_forms (resource_numbers o) ++ scope_line (path_of o)

-- per claim `claim`, `parent`, `grantor`, `holder`, `resource`, `rights`, `weight`, in version 2 `left`, `expiry`
abbrev pub expiry_form : LineForm
expiry_form = number expiry_key 0 (moment_end - 1)

abbrev pub claim_forms : ℕ → List LineForm
claim_forms version =
    number claim_key 1 id_limit
    ∷ number parent_key 0 id_limit
    ∷ number grantor_key 1 id_limit
    ∷ number holder_key 1 id_limit
    ∷ number resource_key 1 id_limit
    ∷ number rights_key 1 (2 ^ right_count - 1)
    ∷ number weight_key 0 weight_limit
    ∷ cond (tells_left version) (number left_key 0 left_limit ∷ expiry_form ∷ []) (expiry_form ∷ [])

abbrev pub claim_numbers : ℕ → Claim → List ℕ
claim_numbers version c =
    c.id ∷ c.parent ∷ c.grantor ∷ c.holder ∷ c.resource ∷ c.rights ∷ c.weight
    ∷ cond (tells_left version) (c.left ∷ c.expiry ∷ []) (c.expiry ∷ [])

abbrev pub claim_from : ℕ → List ℕ → Claim
claim_from version ns = record {
  id = get_or ns 0 0;
  parent = get_or ns 1 0;
  grantor = get_or ns 2 0;
  holder = get_or ns 3 0;
  resource = get_or ns 4 0;
  rights = get_or ns 5 0;
  weight = get_or ns 6 0;
  left = cond (tells_left version) (get_or ns 7 0) 0;
  expiry = cond (tells_left version) (get_or ns 8 0) (get_or ns 7 0);
}

abbrev pub read_claim : ℕ → State → Read Claim
read_claim version st = record { value = claim_from version (values (claim_forms version) st); state = passed (claim_forms version) st }

abbrev pub claim_text : ℕ → Claim → List ℕ
claim_text version c = lines_text (claim_forms version) (claim_numbers version c)

-- lists as a register that was read holds them: zeros behind them
abbrev pub held_actors : List Actor → Actors
held_actors l = record { list = l ++ replicate (actor_limit - length l) no_actor; count = length l }

abbrev pub held_resources : List Resource → Resources
held_resources l = record { list = l ++ replicate (resource_limit - length l) no_resource; count = length l }

abbrev pub held_claims : List Claim → Claims
held_claims l = record { list = l ++ replicate (claim_limit - length l) no_claim; count = length l }

-- Lines `register=1` or `register=2`; `actors=` and the actors; `resources=` and the resources; `claims=` and the claims.
unfoldable pub read_actors : State → Read (List Actor)
read_actors st = section actors_key actor_limit read_actor st

unfoldable pub read_resources : State → Read (List Resource)
read_resources st = section resources_key resource_limit read_resource st

-- the claims hold the hands that they have left
unfoldable pub read_claims : ℕ → State → Read (List Claim)
read_claims version st =
    let read = section claims_key claim_limit (read_claim version) st in
    record { value = latest (each_stored version (latest read.value)); state = read.state }

abbrev pub version_form : LineForm
version_form = number register_key version_one version_two

-- the register of a text, as far as the first failing line; nothing follows the claims
unfoldable pub register_from : List ℕ → Read Register
register_from t =
    let version = read_form version_form (going t 1) in
    let actors = read_actors version.state in
    let resources = read_resources actors.state in
    let claims = read_claims version.value resources.state in
    record {
      value = record {
        actors = held_actors actors.value;
        resources = held_resources resources.value;
        claims = held_claims claims.value;
        version = version.value;
      };
      state = closed claims.state;
    }

-- the text of a register: entries past a count, and bytes past a path's length, are not in it
unfoldable pub register_text : Register → List ℕ
register_text r =
    form_line version_form r.version
    ++ (section_text actors_key actor_limit actor_text (actors_of r.actors)
    ++ (section_text resources_key resource_limit resource_text (resources_of r.resources)
    ++ section_text claims_key claim_limit (claim_text r.version) (claims_of r.claims)))

-- the text of a sound register is never longer
abbrev pub text_limit : ℕ
text_limit = 39789

-- soundness comes last, with 1 and line 0; a refused reading gives the empty register
abbrev pub register_ending : Register → State → RegisterRead
register_ending r (going t l) =
    cond (sound r) (record { register = r; outcome = Ok tt; line = 0 }) (record { register = empty_register; outcome = Err Unsound; line = 0 })
register_ending r (failed why l) = record { register = empty_register; outcome = Err why; line = l }

-- the reading of a text as a register
unfoldable pub register_read : List ℕ → RegisterRead
register_read t = let read = register_from t in register_ending read.value read.state
