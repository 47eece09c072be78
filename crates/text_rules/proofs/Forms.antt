-- Laws: The lines of each form, lists of lines and sections as things with one text. Assumes nothing.
use Rattle.std.specs.Prelude.{ℕ, suc, ◌+◌, ◌≤◌, ◌≡◌, refl, List, [], ◌∷◌, ◌++◌, true, length}
use Rattle.std.proofs.Common.{sym, ap, ◌∙◌, append_assoc, arith}
use Rattle.lists.specs.Tests.{and_left, and_right, and_both}
use Rattle.lists.specs.Lists.{every, All}
use Rattle.register.specs.Limits.{path_limit, path_byte_least, path_byte_greatest, ranged}
use Rattle.soundness_rules.proofs.Laws.{ranged_greatest, ranged_in}
use Rattle.refusals.specs.declared.Refusal.{Refusal}
use Rattle.refusals.specs.declared.Refusal.TheVariants.{Form}
use Rattle.lines.specs.Lines.{Line, line, beyond, fault, scope_line, parse_scope, parse_decimal, parse_kind}
use Rattle.lines.specs.Reading.{State, going, failed, Read, LineForm, decimal, kind, count, taken, read_form, form_line, read_scope}
use Rattle.lines.proofs.Laws.{decimal_reads, decimal_read, kind_reads, kind_read, scope_reads, scope_read, form_fits}
use Rattle.text_rules.specs.Records.{values, passed, lines_text, many, texts, section, section_text}
use Rattle.text_rules.specs.Laws.{many_length}
use Rattle.text_rules.proofs.Fitting.{lines_fit}
use Rattle.text_rules.specs.Things.{ReadsAs, Stood, Codec, many_reads, many_stood}

-- a reading that failed does not go on
pub failed_going_clash : {A : Type 0} {why : Refusal} {l m : ℕ} {rest : List ℕ} → failed why l ≡ going rest m → A
failed_going_clash e = let never : ◌≡◌ {A = ℕ} 0 1 = cc in absurd (omega arith)

-- a line that was taken, and the reading goes on, is a line of the value
taken_line : {A : Type 0} (none : A) (above : Refusal) (l : ℕ) (p : Line A) (rest : List ℕ) (m : ℕ) → (taken none above l p).state ≡ going rest m →
    p ≡ line (taken none above l p).value rest
taken_line none above l (line a t) rest m h = let same : t ≡ rest = cc in ap (line a) same
taken_line none above l beyond rest m h = failed_going_clash h
taken_line none above l fault rest m h = failed_going_clash h

-- a line of a form
pub form_reads : (f : LineForm) (n : ℕ) (rest : List ℕ) (l : ℕ) → form_fits f n ≡ true → ReadsAs (read_form f) (form_line f n ++ rest) l n rest
form_reads (decimal key least greatest above) n rest l h =
    let read = decimal_reads key least greatest n rest h in
    record { next = l + 1; value = rw read; state = rw read }
form_reads kind n rest l h = let read = kind_reads n rest h in record { next = l + 1; value = rw read; state = rw read }

pub form_stood : (f : LineForm) (st : State) (rest : List ℕ) (m : ℕ) → (read_form f st).state ≡ going rest m →
    Stood (form_line f) (λ n. form_fits f n ≡ true) (read_form f st).value st rest
form_stood f (failed why l) rest m h = failed_going_clash h
form_stood (decimal key least greatest above) (going t l) rest m h =
    let read = decimal_read key least greatest _ rest t (taken_line 0 above l (parse_decimal key least greatest t) rest m h) in
    record { at = l; before = ap (λ (u : List ℕ). going u l) read.0; fits = read.1 }
form_stood kind (going t l) rest m h =
    let read = kind_read _ rest t (taken_line 0 Form l (parse_kind t) rest m h) in
    record { at = l; before = ap (λ (u : List ℕ). going u l) read.0; fits = read.1 }

abbrev pub form_codec : LineForm → Codec ℕ
form_codec f = record { read = read_form f; text = form_line f; Fits = λ n. form_fits f n ≡ true; reads = form_reads f; stood = form_stood f }

-- a path that may stand in its line
pub record ScopeFits (p : List ℕ) : Type 0 where
  pub bytes : every (ranged path_byte_least path_byte_greatest) p ≡ true
  pub short : length p ≤ path_limit

pub scope_form_reads : (p rest : List ℕ) (l : ℕ) → ScopeFits p → ReadsAs read_scope (scope_line p ++ rest) l p rest
scope_form_reads p rest l h = let read = scope_reads p rest h.bytes h.short in record { next = l + 1; value = rw read; state = rw read }

pub scope_form_stood : (st : State) (rest : List ℕ) (m : ℕ) → (read_scope st).state ≡ going rest m → Stood scope_line ScopeFits (read_scope st).value st rest
scope_form_stood (failed why l) rest m h = failed_going_clash h
scope_form_stood (going t l) rest m h =
    let read = scope_read _ rest t (taken_line [] Form l (parse_scope t) rest m h) in
    record { at = l; before = ap (λ (u : List ℕ). going u l) read.0; fits = record { bytes = read.1; short = read.2 } }

abbrev pub scope_codec : Codec (List ℕ)
scope_codec = record { read = read_scope; text = scope_line; Fits = ScopeFits; reads = scope_form_reads; stood = scope_form_stood }

-- lines of some forms, one behind the other: a number to each, that may stand there
pub record LinesFit (forms : List LineForm) (numbers : List ℕ) : Type 0 where
  pub count : length numbers ≡ length forms
  pub each : lines_fit forms numbers ≡ true

abbrev pub read_lines : List LineForm → State → Read (List ℕ)
read_lines forms st = record { value = values forms st; state = passed forms st }

pub lines_reads : (forms : List LineForm) (numbers rest : List ℕ) (l : ℕ) → LinesFit forms numbers → ReadsAs (read_lines forms) (lines_text forms numbers ++ rest) l numbers rest
unfolding values passed lines_text lines_fit
lines_reads [] [] rest l h = record { next = l; value = refl; state = refl }
lines_reads [] (n ∷ numbers) rest l h = let count = h.count in absurd (omega arith)
lines_reads (f ∷ forms) [] rest l h = let count = h.count in absurd (omega arith)
lines_reads (f ∷ forms) (n ∷ numbers) rest l h =
    let count = h.count in
    let one = form_reads f n (lines_text forms numbers ++ rest) l (and_left (form_fits f n) (lines_fit forms numbers) h.each) in
    let more = lines_reads forms numbers rest one.next (record { count = omega arith; each = and_right (form_fits f n) (lines_fit forms numbers) h.each }) in
    rw (append_assoc (form_line f n) (lines_text forms numbers) rest) (record {
      next = more.next;
      value = rw (one.value, one.state, more.value);
      state = ap (passed forms) one.state ∙ more.state;
    })

pub lines_stood : (forms : List LineForm) (st : State) (rest : List ℕ) (m : ℕ) → passed forms st ≡ going rest m →
    Stood (lines_text forms) (LinesFit forms) (values forms st) st rest
unfolding values passed lines_text lines_fit
lines_stood [] st rest m h = record { at = m; before = h; fits = record { count = refl; each = refl } }
lines_stood (f ∷ forms) st rest m h =
    let more = lines_stood forms (read_form f st).state rest m h in
    let others = values forms (read_form f st).state in
    let one = form_stood f st (lines_text forms others ++ rest) more.at more.before in
    record {
      at = one.at;
      before = one.before ∙ ap (λ (u : List ℕ). going u one.at) (sym (append_assoc (form_line f (read_form f st).value) (lines_text forms others) rest));
      fits = record {
        count = ap suc more.fits.count;
        each = and_both (form_fits f (read_form f st).value) (lines_fit forms others) one.fits more.fits.each;
      };
    }

abbrev pub lines_codec : List LineForm → Codec (List ℕ)
lines_codec forms = record { read = read_lines forms; text = lines_text forms; Fits = LinesFit forms; reads = lines_reads forms; stood = lines_stood forms }

-- a count line and that many things
module _ {A : Type 0} (key : List ℕ) (limit : ℕ) (C : Codec A) where
  pub record SectionFits (things : List A) : Type 0 where
    pub few : length things ≤ limit
    pub each : All C.Fits things

  pub section_reads : (things : List A) (rest : List ℕ) (l : ℕ) → SectionFits things →
      ReadsAs (section key limit C.read) (section_text key limit C.text things ++ rest) l things rest
  section_reads things rest l h =
      let one = form_reads (count key limit) (length things) (texts C.text things ++ rest) l (ranged_in 0 limit (length things) (omega arith) h.few) in
      let counted = read_form (count key limit) (going (form_line (count key limit) (length things) ++ (texts C.text things ++ rest)) l) in
      let more = many_reads C things rest one.next h.each in
      rw (append_assoc (form_line (count key limit) (length things)) (texts C.text things) rest) (record {
        next = more.next;
        value = ap (λ (n : ℕ). (many C.read n counted.state).value) one.value
            ∙ ap (λ (st : State). (many C.read (length things) st).value) one.state ∙ more.value;
        state = ap (λ (n : ℕ). (many C.read n counted.state).state) one.value
            ∙ ap (λ (st : State). (many C.read (length things) st).state) one.state ∙ more.state;
      })

  pub section_stood : (st : State) (rest : List ℕ) (m : ℕ) → (section key limit C.read st).state ≡ going rest m →
      Stood (section_text key limit C.text) SectionFits (section key limit C.read st).value st rest
  section_stood st rest m h =
      let counted = read_form (count key limit) st in
      let things = (many C.read counted.value counted.state).value in
      let more = many_stood C counted.value counted.state rest m h in
      let one = form_stood (count key limit) st (texts C.text things ++ rest) more.at more.before in
      let all : length things ≡ counted.value = many_length C.read counted.value counted.state in
      record {
        at = one.at;
        before = one.before
            ∙ ap (λ (n : ℕ). going (form_line (count key limit) n ++ (texts C.text things ++ rest)) one.at) (sym all)
            ∙ ap (λ (u : List ℕ). going u one.at) (sym (append_assoc (form_line (count key limit) (length things)) (texts C.text things) rest));
        fits = record { few = omega (arith, ranged_greatest 0 limit counted.value one.fits); each = more.fits };
      }

  abbrev pub section_codec : Codec (List A)
  section_codec = record {
    read = section key limit C.read;
    text = section_text key limit C.text;
    Fits = SectionFits;
    reads = section_reads;
    stood = section_stood;
  }
