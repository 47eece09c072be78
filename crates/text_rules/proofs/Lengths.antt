-- Laws: How long a text can be: each line is no longer than that of its greatest number, and so on up to the text of a sound register, which is never
-- longer than 39,789 bytes, in version 1 than 37,741. Assumes nothing.
use Rattle.std.proofs.Common.{ℕ, zero, suc, ◌+◌, ◌*◌, ◌/◌, ◌≤◌, ◌<◌, ◌≡◌, refl, true, cond, eqb, length, ap, List, [], ◌∷◌, ◌++◌, arith}
use Rattle.std.proofs.Math.Decide.{dec_lt}
use Rattle.std.proofs.Math.Nat.{suc-mul}
use Rattle.std.proofs.Math.ListN.{length-append}
use Rattle.lists.specs.Tests.{cases, and_left, and_right}
use Rattle.lists.specs.Each.{all_imp}
use Rattle.lists.specs.Lists.{All}
use Rattle.register.specs.Limits.{human_kind, actor_limit, resource_limit, claim_limit, version_one, tells_left}
use Rattle.register.specs.Register.{actors_of, resources_of, claims_of, path_of}
use Rattle.register.specs.declared.Actor.{Actor}
use Rattle.register.specs.declared.Resource.{Resource}
use Rattle.register.specs.declared.Claim.{Claim}
use Rattle.register.specs.declared.Register.{Register}
use Rattle.soundness_rules.specs.Sound.{sound}
use Rattle.soundness_rules.proofs.Laws.{ranged_greatest, ranged_in}
use Rattle.decimals.specs.Decimals.{digits, digits_with}
use Rattle.decimals.specs.Walk.{length_small, length_step}
use Rattle.lines.specs.Lines.{line_feed, machine_line, word_line, scope_line}
use Rattle.lines.specs.Reading.{LineForm, decimal, kind, count, form_line}
use Rattle.lines.proofs.Laws.{decimal_line_length, form_fits}
use Rattle.text_rules.specs.Records.{lines_text, texts, section_text}
use Rattle.text_rules.specs.Keys.{actors_key, resources_key, claims_key}
use Rattle.text_rules.specs.Registers.{actor_forms, actor_numbers, actor_text, resource_forms, resource_numbers, resource_text, claim_forms, claim_numbers, claim_text, version_form, register_text, text_limit}
use Rattle.text_rules.proofs.Fitting.{ResourceLines, register_lines_fit, lines_fit}

-- a greater number has no fewer digits
digits_more : (fuel n m : ℕ) → n < fuel → n ≤ m → length (digits n) ≤ length (digits m)
digits_more zero n m enough h = absurd (omega arith)
digits_more (suc fuel) n m enough h = elim (dec_lt m 10) [
  | yes lt ↦ omega (arith, length_small n (omega arith), length_small m lt)
  | no ge ↦ elim (dec_lt n 10) [
    | yes lt ↦ omega (arith, length_small n lt, length_step m (omega arith))
    | no least ↦ omega (arith, length_step n (omega arith), length_step m (omega arith), digits_more fuel (n / 10) (m / 10) (omega arith) (omega arith))
  ]
]

-- four texts one behind the other
four_length : (a b c d : List ℕ) (k l m n : ℕ) → length a ≤ k → length b ≤ l → length c ≤ m → length d ≤ n → length (a ++ (b ++ (c ++ d))) ≤ k + (l + (m + n))
four_length a b c d k l m n p q r s = simp length-append (omega arith)

-- how long a line of a form is at most, LF included
unfoldable pub form_width : LineForm → ℕ
form_width (decimal key least greatest above) = length key + length (digits greatest) + 1
form_width kind = length machine_line

pub form_length : (f : LineForm) (n : ℕ) → form_fits f n ≡ true → length (form_line f n) ≤ form_width f
unfolding form_width word_line
form_length (decimal key least greatest above) n h =
    omega (arith, decimal_line_length key n, digits_more (suc n) n greatest (omega arith) (ranged_greatest least greatest n h))
form_length kind n h = cases (eqb n human_kind) (λ e. rw e (omega arith)) (λ e. rw e (omega arith))

-- and lines one behind the other
unfoldable pub lines_width : List LineForm → ℕ
lines_width [] = 0
lines_width (f ∷ forms) = form_width f + lines_width forms

pub lines_length : (forms : List LineForm) (numbers : List ℕ) → lines_fit forms numbers ≡ true → length (lines_text forms numbers) ≤ lines_width forms
unfolding lines_width lines_text lines_fit
lines_length [] numbers h = omega arith
lines_length (f ∷ forms) [] h = omega arith
lines_length (f ∷ forms) (n ∷ numbers) h =
    omega (
      arith,
      length-append (form_line f n) (lines_text forms numbers),
      form_length f n (and_left (form_fits f n) (lines_fit forms numbers) h),
      lines_length forms numbers (and_right (form_fits f n) (lines_fit forms numbers) h),
    )

-- and things one behind the other
module _ {A : Type 0} (text : A → List ℕ) (width : ℕ) where
  pub texts_length : (limit : ℕ) (things : List A) → length things ≤ limit → All (λ a. length (text a) ≤ width) things → length (texts text things) ≤ limit * width
  unfolding texts
  texts_length limit [] few h = omega arith
  texts_length zero (a ∷ things) few h = absurd (omega arith)
  texts_length (suc limit) (a ∷ things) few h =
      omega (arith, length-append (text a) (texts text things), h.0, texts_length limit things (omega arith) h.1, suc-mul limit width)

  pub section_text_length : (key : List ℕ) (limit : ℕ) (things : List A) → length things ≤ limit → All (λ a. length (text a) ≤ width) things →
      length (section_text key limit text things) ≤ form_width (count key limit) + limit * width
  section_text_length key limit things few h =
      omega (
        arith,
        length-append (form_line (count key limit) (length things)) (texts text things),
        form_length (count key limit) (length things) (ranged_in 0 limit (length things) (omega arith) few),
        texts_length limit things few h,
      )

-- how long the text of an actor, a resource and a claim is at most, and their count lines
actor_width : lines_width actor_forms ≡ 37
unfolding lines_width form_width digits digits_with
actor_width = refl

resource_width : lines_width resource_forms ≡ 37
unfolding lines_width form_width digits digits_with
resource_width = refl

abbrev claim_width : ℕ → ℕ
claim_width version = cond (tells_left version) 119 111

claim_width_lem : (version : ℕ) → lines_width (claim_forms version) ≡ claim_width version
unfolding lines_width form_width digits digits_with
claim_width_lem version = cases (tells_left version) (λ e. rw e) (λ e. rw e)

actors_width : form_width (count actors_key actor_limit) ≡ 10
unfolding form_width digits digits_with
actors_width = refl

resources_width : form_width (count resources_key resource_limit) ≡ 13
unfolding form_width digits digits_with
resources_width = refl

claims_width : form_width (count claims_key claim_limit) ≡ 11
unfolding form_width digits digits_with
claims_width = refl

version_width : form_width version_form ≡ 11
unfolding form_width digits digits_with
version_width = refl

pub scope_line_length : (p : List ℕ) → length (scope_line p) ≡ length p + 7
unfolding scope_line
scope_line_length p = omega (arith, length-append p (line_feed ∷ []))

actor_text_length : (a : Actor) → lines_fit actor_forms (actor_numbers a) ≡ true → length (actor_text a) ≤ 37
actor_text_length a h = omega (arith, lines_length actor_forms (actor_numbers a) h, actor_width)

resource_text_length : (o : Resource) → ResourceLines o → length (resource_text o) ≤ 108
resource_text_length o h =
    omega (
      arith,
      lines_length resource_forms (resource_numbers o) h.numbers,
      resource_width,
      scope_line_length (path_of o),
      h.short,
      length-append (lines_text resource_forms (resource_numbers o)) (scope_line (path_of o)),
    )

claim_text_length : (version : ℕ) (c : Claim) → lines_fit (claim_forms version) (claim_numbers version c) ≡ true → length (claim_text version c) ≤ claim_width version
claim_text_length version c h = omega (arith, lines_length (claim_forms version) (claim_numbers version c) h, claim_width_lem version)

-- the text of a sound register, by how long a claim's is
text_width : (r : Register) → sound r ≡ true → length (register_text r) ≤ 11 + (2378 + (6925 + (11 + claim_limit * claim_width r.version)))
unfolding register_text
text_width r h =
    let fit = register_lines_fit r h in
    let actors = actors_of r.actors in
    let resources = resources_of r.resources in
    let claims = claims_of r.claims in
    let version = form_line version_form r.version in
    let first = section_text actors_key actor_limit actor_text actors in
    let second = section_text resources_key resource_limit resource_text resources in
    let third = section_text claims_key claim_limit (claim_text r.version) claims in
    let a = section_text_length actor_text 37 actors_key actor_limit actors fit.few_actors
    (all_imp (λ a. lines_fit actor_forms (actor_numbers a) ≡ true) (λ a. length (actor_text a) ≤ 37) actor_text_length actors fit.actors) in
    let o = section_text_length resource_text 108 resources_key resource_limit resources fit.few_resources
    (all_imp ResourceLines (λ o. length (resource_text o) ≤ 108) resource_text_length resources fit.resources) in
    let c = section_text_length (claim_text r.version) (claim_width r.version) claims_key claim_limit claims fit.few_claims
    (all_imp (λ c. lines_fit (claim_forms r.version) (claim_numbers r.version c) ≡ true) (λ c. length (claim_text r.version c) ≤ claim_width r.version)
    (claim_text_length r.version) claims fit.claims) in
    four_length version first second third 11 2378 6925 (11 + claim_limit * claim_width r.version)
    (omega (arith, form_length version_form r.version fit.version, version_width)) (omega (arith, a, actors_width)) (omega (arith, o, resources_width))
    (omega (arith, c, claims_width))

-- it is never longer than 39,789 bytes
pub text_length : (r : Register) → sound r ≡ true → length (register_text r) ≤ text_limit
text_length r h = cases (tells_left r.version) (λ e. let wide = rw e at (text_width r h) in omega (arith, wide)) (λ e. let wide = rw e at (text_width r h) in omega (arith, wide))

-- and in version 1 than 37,741
pub text_length_one : (r : Register) → r.version ≡ version_one → sound r ≡ true → length (register_text r) ≤ 37741
text_length_one r one h = let wide = rw (ap tells_left one) at (text_width r h) in omega (arith, wide)
