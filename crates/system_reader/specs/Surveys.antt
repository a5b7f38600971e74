-- What the first pass finds, and that it is the document.
--     Stands               the lines of form f begin at a place, and es is what they say
--     places_of_all, values_of_all     the tests of the places and of the values of `a`, `s` and `b` lines
--     Content, SurveyedFrom        the lines after a `system` line: in form, with what they say, or not
--     Known, Surveyed      of a whole text: in form, with what its document says, or not
--     survey_refusal        the reader's checks on what was found
--     Accepted             what they say of a text that they take
-- Laws: whole_surveyed, not_header; reader_refusal_law: survey_refusal is reader_refusal; entries_ahead, scales_ahead, elements_ahead: what the second pass
-- may take for granted; starts_are .. right_is: what it fills in is the system.
use Rattle.std.specs.Prelude.{◌≡◌, Bool, true, false, not, ◌&&◌, ◌||◌, List, [], ◌∷◌, ◌++◌, ℕ, ◌+◌, ◌≤◌, ◌<◌, eqb, leb, get_or, length, drop, Option, Some, None}
use Rattle.std.proofs.Math.Path.{refl, ap, ap₂}
use Rattle.std.proofs.Common.{sym, ◌∙◌, subst, arith, le-leb, leb-true, eqb-true}
use Rattle.meaning.specs.List.{at}
use Rattle.meaning.specs.Field.{is_modulus}
use Rattle.meaning.specs.Text as text
use Rattle.meaning.specs.Text.{lines, saying, in_form, Document, document, placed, system}
use Rattle.meaning.specs.Refusal.{Check, check, first, rows_taken, scale_count_taken, some_scale, count_taken, places_taken, values_taken, document_checks}
use Rattle.meaning.specs.Calls.{text_checks, reader_refusal}
use Rattle.std.proofs.lemmas.Bool.{lt-leb}
use Rattle.laws.specs.Bool.{and_left, and_right, and_five, and_false_left, and_false_right}
use Rattle.laws.specs.Refusal.{first_past, first_stops, first_passed}
use Rattle.system_reader.specs.Order.{onward, closing, body, whole, whole_header, whole_form}
use Rattle.system_reader.specs.Lines.{Here, said, Missing, scale_word, element_word, header_missing}
use Rattle.system_reader.specs.Places.{placed_by, PlaceWord, entries_of, scales_of, elements_of, entries_taken, places_after, entry_values, place_values, ones, entries_places, places_rise, EntriesRead, PlacesRead, saying_here, saying_past}
use Rattle.system_reader.specs.Fill.{Ahead, EntriesAhead, PlacesAhead, starts_of, columns_of, values_of}
use Rattle.system_reader.specs.declared.survey.Group.{Group}
use Rattle.system_reader.specs.declared.survey.Placed.{Placed}
use Rattle.system_reader.specs.declared.survey.Survey.{Survey}

pub record Stands (f : text.Form) (s : List ℕ) (es : List (List ℕ)) (i : ℕ) : Type 0 where
  pub within : i ≤ length s
  pub form : onward f (lines (drop i s)) ≡ true
  pub here : es ≡ saying f (lines (drop i s))

abbrev pub places_of_all : ℕ → List (List ℕ) → List (List ℕ) → List (List ℕ) → Bool
places_of_all n es xs bs = entries_taken n 0 0 es && (places_after n 0 xs && some_scale xs) && places_after n 0 bs

abbrev pub values_of_all : ℕ → List (List ℕ) → List (List ℕ) → List (List ℕ) → Bool
values_of_all p es xs bs = entry_values p es && place_values p xs && place_values p bs

pub record Content (s : List ℕ) (p n k i : ℕ) (r : Survey) : Type 0 where
  pub form : body (lines (drop i s)) ≡ true
  pub modulus : r.p ≡ p
  pub size : r.n ≡ n
  pub count : r.count ≡ k
  pub place : r.body ≡ i
  pub entries : length (entries_of (drop i s)) ≡ r.entries
  pub scales : length (scales_of (drop i s)) ≡ r.scales
  pub elements : length (elements_of (drop i s)) ≡ r.elements
  pub placed : places_of_all n (entries_of (drop i s)) (scales_of (drop i s)) (elements_of (drop i s)) ≡ r.places
  pub valued : values_of_all p (entries_of (drop i s)) (scales_of (drop i s)) (elements_of (drop i s)) ≡ r.values
  pub scaling : Stands text.scale s (scales_of (drop i s)) r.scaling
  pub right : Stands text.element s (elements_of (drop i s)) r.right

abbrev pub SurveyedFrom : List ℕ → ℕ → ℕ → ℕ → ℕ → Option Survey → Type 0
SurveyedFrom s p n k i None = body (lines (drop i s)) ≡ false
SurveyedFrom s p n k i (Some r) = Content s p n k i r

pub record Known (s : List ℕ) (r : Survey) : Type 0 where
  pub form : leb (length s) 2097152 && in_form s ≡ true
  pub modulus : (document s).modulus ≡ r.p
  pub size : (document s).size ≡ r.n
  pub count : (document s).count ≡ r.count
  pub entries : length (document s).entries ≡ r.entries
  pub scales : length (document s).scales ≡ r.scales
  pub elements : length (document s).elements ≡ r.elements
  pub placed : places_taken (document s) ≡ r.places
  pub valued : values_taken (document s) ≡ r.values
  pub body : Stands text.entry s (document s).entries r.body
  pub scaling : Stands text.scale s (document s).scales r.scaling
  pub right : Stands text.element s (document s).elements r.right

abbrev pub Surveyed : List ℕ → Option Survey → Type 0
Surveyed s None = leb (length s) 2097152 && in_form s ≡ false
Surveyed s (Some r) = Known s r

-- ---- after the `system` line

module _ (s : List ℕ) (p n k i : ℕ) (a : Group) (x b : Placed) (ea : EntriesRead s i p n a) (ex : PlacesRead (115 ∷ []) s a.next p n x)
    (eb : PlacesRead (98 ∷ []) s x.group.next p n b) where
  form_read : body (lines (drop i s)) ≡ closing (lines (drop b.group.next s))
  form_read = ea.form ∙ ex.group.form ∙ eb.group.form

  -- `end` is missing, or more stands after it
  pub unsurveyed_from : closing (lines (drop b.group.next s)) ≡ false → SurveyedFrom s p n k i None
  unsurveyed_from e = form_read ∙ e

  pub surveyed_from : (places values : Bool) → closing (lines (drop b.group.next s)) ≡ true
      → places ≡ a.places && (x.group.places && (eqb x.group.count 0 || not x.ones)) && b.group.places
      → values ≡ a.values && x.group.values && b.group.values
      → SurveyedFrom s p n k i
      (Some
      (record {
        p = p;
        n = n;
        count = k;
        entries = a.count;
        scales = x.group.count;
        elements = b.group.count;
        places = places;
        values = values;
        body = i;
        scaling = a.next;
        right = x.group.next;
      }))
  surveyed_from places values tb q v =
      let xs = ea.others text.scale refl in
      let bs = ea.others text.element refl ∙ ex.group.others text.element refl in
      let tx = eb.group.form ∙ tb in
      let ta = ex.group.form ∙ tx in
      let scales = ap length xs ∙ ex.group.count tx in
      let scaled =
      ap₂ ◌&&◌ (ap (places_after n 0) xs ∙ ex.group.placed tx)
      (ap₂ (λ m o. eqb m 0 || not o) scales (ap ones xs ∙ ex.ones tx)) in
      record {
        form = form_read ∙ tb;
        modulus = refl;
        size = refl;
        count = refl;
        place = refl;
        entries = ea.count ta;
        scales = scales;
        elements = ap length bs ∙ eb.group.count tb;
        placed = ap₂ ◌&&◌ (ap₂ ◌&&◌ (ea.placed ta) scaled) (ap (places_after n 0) bs ∙ eb.group.placed tb) ∙ sym q;
        valued =
            ap₂ ◌&&◌ (ap₂ ◌&&◌ (ea.valued ta) (ap (place_values p) xs ∙ ex.group.valued tx)) (ap (place_values p) bs ∙ eb.group.valued tb) ∙ sym v;
        scaling = record { within = ea.within; form = ta; here = xs };
        right = record { within = ex.group.within; form = tx; here = bs };
      }

-- ---- the whole text

module _ (s : List ℕ) (numbers : List ℕ) (next : ℕ) (h : Here s 0 next text.header numbers) where
  header_here : get_or (saying text.header (lines s)) 0 [] ≡ numbers
  header_here = ap (λ l. get_or l 0 []) (saying_here s 0 next text.header numbers h)

  pub document_modulus : (document s).modulus ≡ at numbers 0
  unfolding document
  document_modulus = ap (λ l. at l 0) header_here

  pub document_size : (document s).size ≡ at numbers 1
  unfolding document
  document_size = ap (λ l. at l 1) header_here

  pub document_count : (document s).count ≡ at numbers 2
  unfolding document
  document_count = ap (λ l. at l 2) header_here

  after_header : (f : text.Form) → eqb 0 (text.rank f) ≡ false → saying f (lines s) ≡ saying f (lines (drop next s))
  after_header = saying_past s 0 next text.header numbers h

  pub document_entries : (document s).entries ≡ entries_of (drop next s)
  unfolding document
  document_entries = after_header text.entry refl

  pub document_scales : (document s).scales ≡ scales_of (drop next s)
  unfolding document
  document_scales = after_header text.scale refl

  pub document_elements : (document s).elements ≡ elements_of (drop next s)
  unfolding document
  document_elements = after_header text.element refl

  form_header : in_form s ≡ body (lines (drop next s))
  form_header = whole_form s ∙ ap whole h.lines ∙ whole_header (said text.header numbers) (lines (drop next s)) refl

places_all : (d : Document) → places_taken d ≡ places_of_all d.size d.entries d.scales d.elements
unfolding places_taken
places_all d =
    sym (ap₂ ◌&&◌ (ap₂ ◌&&◌ (entries_places d.size d.entries) (ap (λ t. t && some_scale d.scales) (places_rise d.size d.scales))) (places_rise d.size d.elements))

values_all : (d : Document) → values_taken d ≡ values_of_all d.modulus d.entries d.scales d.elements
unfolding values_taken
values_all d = refl

pub whole_surveyed : (s numbers : List ℕ) (next : ℕ) (r : Option Survey) → length s ≤ 2097152 → Here s 0 next text.header numbers
    → SurveyedFrom s (at numbers 0) (at numbers 1) (at numbers 2) next r → Surveyed s r
whole_surveyed s numbers next None l h e = and_false_right (leb (length s) 2097152) (form_header s numbers next h ∙ e)
whole_surveyed s numbers next (Some r) l h g =
    let em = document_modulus s numbers next h in
    let en = document_size s numbers next h in
    let ee = document_entries s numbers next h in
    let ex = document_scales s numbers next h in
    let eb = document_elements s numbers next h in
    record {
      form = ap₂ ◌&&◌ (le-leb (length s) 2097152 l) (form_header s numbers next h ∙ g.form);
      modulus = em ∙ sym g.modulus;
      size = en ∙ sym g.size;
      count = document_count s numbers next h ∙ sym g.count;
      entries = ap length ee ∙ g.entries;
      scales = ap length ex ∙ g.scales;
      elements = ap length eb ∙ g.elements;
      placed = places_all (document s) ∙ (λ j. places_of_all (en j) (ee j) (ex j) (eb j)) ∙ g.placed;
      valued = values_all (document s) ∙ (λ j. values_of_all (em j) (ee j) (ex j) (eb j)) ∙ g.valued;
      body =
          record {
            within = subst (λ i. i ≤ length s) (sym g.place) h.within;
            form = ap (λ i. body (lines (drop i s))) g.place ∙ g.form;
            here = ee ∙ ap (λ i. entries_of (drop i s)) (sym g.place);
          };
      scaling = record { within = g.scaling.within; form = g.scaling.form; here = ex ∙ g.scaling.here };
      right = record { within = g.right.within; form = g.right.form; here = eb ∙ g.right.here };
    }

pub long_surveyed : (s : List ℕ) → 2097152 < length s → Surveyed s None
long_surveyed s l = and_false_left (in_form s) (lt-leb (length s) 2097152 l)

pub not_header : (s : List ℕ) → Missing text.header (lines s) → Surveyed s None
not_header s m = and_false_right (leb (length s) 2097152) (whole_form s ∙ header_missing (lines s) m)

-- ---- the reader's checks

abbrev count_found : Survey → Bool
count_found r = eqb r.count r.entries && leb r.entries 65536 && scale_count_taken r.n r.scales

-- 11, for a size and a number of entries
abbrev room_for : ℕ → ℕ → ℕ → ℕ → ℕ → ℕ → ℕ → Bool
room_for n k starts columns values scales right = leb (n + 1) starts && leb k columns && leb k values && leb n scales && leb n right

-- of a text in form
abbrev later_checks : Survey → ℕ → ℕ → ℕ → ℕ → ℕ → List Check
later_checks r starts columns values scales right =
    check 3 (not (is_modulus r.p))
    ∷ check 4 (not (rows_taken r.n))
    ∷ check 5 (not (count_found r))
    ∷ check 6 (not r.places)
    ∷ check 7 (not r.values)
    ∷ check 11 (not (room_for r.n r.count starts columns values scales right))
    ∷ []

unfoldable pub survey_refusal : Option Survey → ℕ → ℕ → ℕ → ℕ → ℕ → ℕ
survey_refusal None starts columns values scales right = 2
survey_refusal (Some r) starts columns values scales right = first (later_checks r starts columns values scales right)

known_checks : (s : List ℕ) (r : Survey) (a b c d e : ℕ) → Known s r
    → first (document_checks (document s) ++ (check 11 (not (room_for (document s).size (document s).count a b c d e)) ∷ [])) ≡ first (later_checks r a b c d e)
unfolding document_checks count_taken
known_checks s r a b c d e k = rw (k.placed, k.valued, k.modulus, k.size, k.count, k.entries, k.scales)

pub reader_refusal_law : (s starts columns values scales right : List ℕ) (r : Option Survey) → Surveyed s r
    → survey_refusal r (length starts) (length columns) (length values) (length scales) (length right) ≡ reader_refusal s starts columns values scales right
unfolding survey_refusal reader_refusal text_checks
reader_refusal_law s starts columns values scales right None e =
    sym (first_stops 2 (not (leb (length s) 2097152 && in_form s)) _ (ap not e))
reader_refusal_law s starts columns values scales right (Some r) k =
    sym (known_checks s r (length starts) (length columns) (length values) (length scales) (length right) k)
    ∙ sym (first_past 2 (not (leb (length s) 2097152 && in_form s)) _ (ap not k.form))

-- ---- what the checks say of a text that they take

pub record Accepted (r : Survey) (a b c d e : ℕ) : Type 0 where
  pub size : r.n ≤ 4096
  pub count : r.count ≡ r.entries
  pub few : r.entries ≤ 65536
  pub placed : r.places ≡ true
  pub starts : r.n + 1 ≤ a
  pub columns : r.count ≤ b
  pub values : r.count ≤ c
  pub scales : r.n ≤ d
  pub right : r.n ≤ e

pub accepted : (r : Survey) (starts columns values scales right : ℕ) → survey_refusal (Some r) starts columns values scales right ≡ 0
    → Accepted r starts columns values scales right
unfolding survey_refusal
accepted r starts columns values scales right e =
    let c3 = first_passed 3 (is_modulus r.p) _ (omega arith) e in
    let c4 = first_passed 4 (rows_taken r.n) _ (omega arith) c3.1 in
    let c5 = first_passed 5 (count_found r) _ (omega arith) c4.1 in
    let c6 = first_passed 6 r.places _ (omega arith) c5.1 in
    let c7 = first_passed 7 r.values _ (omega arith) c6.1 in
    let c11 = first_passed 11 (room_for r.n r.count starts columns values scales right) _ (omega arith) c7.1 in
    let entries = and_left (eqb r.count r.entries && leb r.entries 65536) (scale_count_taken r.n r.scales) c5.0 in
    let room = and_five (leb (r.n + 1) starts) (leb r.count columns) (leb r.count values) (leb r.n scales) (leb r.n right) c11.0 in
    record {
      size = leb-true r.n 4096 c4.0;
      count = eqb-true r.count r.entries (and_left (eqb r.count r.entries) (leb r.entries 65536) entries);
      few = leb-true r.entries 65536 (and_right (eqb r.count r.entries) (leb r.entries 65536) entries);
      placed = c6.0;
      starts = leb-true (r.n + 1) starts room.0;
      columns = leb-true r.count columns room.1;
      values = leb-true r.count values room.2;
      scales = leb-true r.n scales room.3;
      right = leb-true r.n right room.4;
    }

ahead : (f : text.Form) (test : List (List ℕ) → Bool) (s : List ℕ) (es : List (List ℕ)) (i count n : ℕ) → Stands f s es i → length es ≡ count → n ≤ 4096
    → test es ≡ true → Ahead f test s i count n
ahead f test s es i count n h e l t =
    record {
      within = h.within;
      form = h.form;
      all = sym (ap length h.here) ∙ e;
      size = l;
      taken = sym (ap test h.here) ∙ t;
    }

module _ (s : List ℕ) (r : Survey) (k : Known s r) (n : ℕ) (e : n ≡ r.n) where
  abbrev d : Document
  d = document s

  size_is : n ≡ d.size
  size_is = e ∙ sym k.size

  module _ (l : r.n ≤ 4096) (t : r.places ≡ true) where
    small : n ≤ 4096
    small = subst (λ m. m ≤ 4096) (sym e) l

    all_placed : places_of_all n d.entries d.scales d.elements ≡ true
    all_placed = ap (λ m. places_of_all m d.entries d.scales d.elements) size_is ∙ sym (places_all d) ∙ k.placed ∙ t

    upper_placed : entries_taken n 0 0 d.entries && (places_after n 0 d.scales && some_scale d.scales) ≡ true
    upper_placed =
        and_left (entries_taken n 0 0 d.entries && (places_after n 0 d.scales && some_scale d.scales)) (places_after n 0 d.elements) all_placed

    pub entries_ahead : EntriesAhead s r.body r.entries n
    entries_ahead =
        ahead text.entry (entries_taken n 0 0) s d.entries r.body r.entries n k.body k.entries small
        (and_left (entries_taken n 0 0 d.entries) (places_after n 0 d.scales && some_scale d.scales) upper_placed)

    places_ahead : (w : List ℕ) (es : List (List ℕ)) (i count : ℕ) → PlaceWord w → Stands (placed_by w) s es i → length es ≡ count
        → places_after n 0 es ≡ true → PlacesAhead w s i count n
    places_ahead w es i count q h c u = record { word = q; ahead = ahead (placed_by w) (places_after n 0) s es i count n h c small u }

    pub scales_ahead : PlacesAhead (115 ∷ []) s r.scaling r.scales n
    scales_ahead =
        places_ahead (115 ∷ []) d.scales r.scaling r.scales scale_word k.scaling k.scales
        (and_left (places_after n 0 d.scales) (some_scale d.scales)
        (and_right (entries_taken n 0 0 d.entries) (places_after n 0 d.scales && some_scale d.scales) upper_placed))

    pub elements_ahead : PlacesAhead (98 ∷ []) s r.right r.elements n
    elements_ahead =
        places_ahead (98 ∷ []) d.elements r.right r.elements element_word k.right k.elements
        (and_right (entries_taken n 0 0 d.entries && (places_after n 0 d.scales && some_scale d.scales)) (places_after n 0 d.elements) all_placed)

  -- what is filled in is the system
  pub starts_are : starts_of n (entries_of (drop r.body s)) ≡ (system d).matrix.starts
  unfolding system
  starts_are = ap₂ starts_of size_is (sym k.body.here)

  pub columns_are : columns_of (entries_of (drop r.body s)) ≡ (system d).matrix.columns
  unfolding system
  columns_are = ap columns_of (sym k.body.here)

  pub values_are : values_of (entries_of (drop r.body s)) ≡ (system d).matrix.values
  unfolding system
  values_are = ap values_of (sym k.body.here)

  pub scales_are : placed n 1 (scales_of (drop r.scaling s)) ≡ (system d).scales
  unfolding system
  scales_are = ap₂ (λ m es. placed m 1 es) size_is (sym k.scaling.here)

  pub right_is : placed n 0 (elements_of (drop r.right s)) ≡ (system d).right
  unfolding system
  right_is = ap₂ (λ m es. placed m 0 es) size_is (sym k.right.here)
