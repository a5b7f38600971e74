-- The text call's checks, by the reader's: arrays for 128 rows and 1,024 entries make the reader's 11 the text call's.
--     by_reader text room r     the text call's refusal, r being the reader's: 1 first, then the reader's, then the answer's room
--     text_by_reader           text_refusal text room ≡ by_reader text room (reader_refusal ..) for slices of 129, 1,024, 1,024, 128 and 128 places
--     by_reader_long           1 where the text is too long
--     by_reader_refused, by_reader_short, by_reader_taken      its cases where it is not
--     text_refused, text_given what the call answers and leaves in either case
--     TextTaken text, text_taken      what text_refusal text room ≡ 0 says
--     run_checked              a run without words on a system that passes the checks
--     size_system              the matrix of a document has its size
--     system_checked, solved_small      the system of a text that is taken, and the bounds of its run
--     solved_fits, solved_long      the text of a system that is taken: at most 7,168 bytes, more than 18
--     LengthOrNumber text room r      r is above 18 exactly where nothing is refused, and otherwise the refusal's number, 1 to 11
--     answer_or_number         so is the number that the call returns
--     Called, called           what the call ensures: its number and its slice say the rest
use Rattle.std.specs.Prelude.{◌≡◌, refl, ◌⊎◌, Bool, true, false, not, ◌&&◌, ℕ, zero, suc, ◌+◌, ◌≤◌, ◌<◌, eqb, length, take, drop}
use Rattle.std.proofs.Common.{sym, ap₂, subst, ◌∙◌, inl, inr, arith, take_at, leb-true, le-leb, eq-eqb, ne_eqb}
use Rattle.std.proofs.Math.Path.{ap}
use Rattle.std.proofs.Math.Bool.{cond}
use mathlib.Core.List.{List, [], ◌∷◌, ◌++◌}
use Rattle.std.proofs.Math.Dec.{leb}
use Rattle.std.proofs.lemmas.Bool.{lt-leb}
use Rattle.meaning.specs.List.{every, select, overwrite}
use Rattle.meaning.specs.Matrix.{Matrix, size}
use Rattle.meaning.specs.Text.{Document, document, System, system, row}
use Rattle.meaning.specs.Refusal.{Check, check, first, unless_refused, document_checks, words_taken, window_taken}
use Rattle.meaning.specs.Solver.{solve}
use Rattle.meaning.specs.Answer.{AddsUp}
use Rattle.meaning.specs.Calls.{system_checks, run_checks, text_checks, reader_refusal, text_refusal, solved_text, text_answer, text_after}
use Rattle.laws.specs.Bool.{and_left, and_right, and_both, same_test}
use Rattle.laws.specs.List.{length_table}
use Rattle.laws.specs.Refusal.{first_cons, first_nil, first_passed, first_pass, numbered_system, numbered_text, first_append_none, first_append, first_append_zero, no_words}
use Rattle.text_laws.specs.Accepted.{system_accepted, modulus_high}
use Rattle.text_laws.specs.Lists.{every_head, every_tail}
use Rattle.text_laws.specs.RoundTrip.{system_of, read_and_written}
use Rattle.text_laws.specs.Bill.{answer_adds_up}
use Rattle.text_call.specs.Bounds.{Small, run_small, answer_fits, answer_long}

unfoldable pub by_reader : List ℕ → ℕ → ℕ → ℕ
by_reader text room r = cond (leb (length text) 26624) (cond (eqb r 0) (cond (leb 7168 room) 0 11) r) 1

-- a check 11 after others, cut in two
eleven : (k : ℕ) (m r : Bool)
    → cond (eqb k 0) (cond (not (m && r)) 11 0) k
    ≡ cond (eqb (cond (eqb k 0) (cond (not m) 11 0) k) 0) (cond r 0 11) (cond (eqb k 0) (cond (not m) 11 0) k)
eleven zero true true = refl
eleven zero true false = refl
eleven zero false r = refl
eleven (suc k) m r =
    let e = ne_eqb (suc k) 0 (λ z. omega arith) in
    rw (e, e)

one : (t : Bool) (k : ℕ) → cond (not t) 1 k ≡ cond t k 1
one true k = refl
one false k = refl

module _ (text : List ℕ) where
  abbrev d : Document
  d = document text

  -- the checks, and an 11 after them
  then_eleven : (t : Bool) → first (text_checks text ++ (check 11 (not t) ∷ [])) ≡ cond (eqb (first (text_checks text)) 0) (cond (not t) 11 0) (first (text_checks text))
  then_eleven t =
      first_append (text_checks text) (check 11 (not t) ∷ []) (numbered_text text)
      ∙ ap (λ k. cond (eqb (first (text_checks text)) 0) k (first (text_checks text)))
      (first_cons (check 11 (not t)) [] ∙ ap (cond (not t) 11) first_nil)

  module _ (starts columns values scales right : List ℕ) (es : length starts ≡ 129) (ec : length columns ≡ 1024) (ev : length values ≡ 1024) (ex : length scales ≡ 128) (er : length right ≡ 128) where
    abbrev small : Bool
    small = leb d.size 128 && leb d.count 1024

    -- the reader's room
    abbrev enough : Bool
    enough = leb (d.size + 1) (length starts) && leb d.count (length columns) && leb d.count (length values) && leb d.size (length scales) && leb d.size (length right)

    room_small : enough ≡ small
    room_small =
        let n = d.size in
        let k = d.count in
        let ts = leb (n + 1) (length starts) in
        let tc = leb k (length columns) in
        let tv = leb k (length values) in
        let tx = leb n (length scales) in
        let tr = leb n (length right) in
        same_test enough small
        (λ t.
        let two = and_left (ts && tc) tv (and_left (ts && tc && tv) tx (and_left (ts && tc && tv && tx) tr t)) in
        and_both
        (le-leb n 128 (omega (arith, leb-true n (length right) (and_right (ts && tc && tv && tx) tr t))))
        (le-leb k 1024 (omega (arith, leb-true k (length columns) (and_right ts tc two)))))
        (λ t.
        let hn = leb-true n 128 (and_left (leb n 128) (leb k 1024) t) in
        let hk = leb-true k 1024 (and_right (leb n 128) (leb k 1024) t) in
        and_both
        (and_both
        (and_both
        (and_both (le-leb (n + 1) (length starts) (omega arith)) (le-leb k (length columns) (omega arith)))
        (le-leb k (length values) (omega arith)))
        (le-leb n (length scales) (omega arith)))
        (le-leb n (length right) (omega arith)))

    pub text_by_reader : (room : ℕ) → text_refusal text room ≡ by_reader text room (reader_refusal text starts columns values scales right)
    unfolding text_refusal reader_refusal by_reader
    text_by_reader room =
        let k = first (text_checks text) in
        let rest = first (text_checks text ++ (check 11 (not (small && leb 7168 room)) ∷ [])) in
        let reader = reader_refusal text starts columns values scales right in
        let by_reader_law : reader ≡ cond (eqb k 0) (cond (not small) 11 0) k =
        then_eleven enough ∙ ap (λ t. cond (eqb k 0) (cond (not t) 11 0) k) room_small in
        let later : rest ≡ cond (eqb reader 0) (cond (leb 7168 room) 0 11) reader =
        then_eleven (small && leb 7168 room) ∙ eleven k small (leb 7168 room)
        ∙ ap (λ r. cond (eqb r 0) (cond (leb 7168 room) 0 11) r) (sym by_reader_law) in
        first_cons (check 1 (not (leb (length text) 26624))) (text_checks text ++ (check 11 (not (small && leb 7168 room)) ∷ []))
        ∙ one (leb (length text) 26624) rest
        ∙ ap (λ x. cond (leb (length text) 26624) x 1) later

-- ---- what the call answers and leaves

-- a refusal's number, and the slice as it was
pub text_refused : (text answer : List ℕ) (k : ℕ) → text_refusal text (length answer) ≡ k → 1 ≤ k
    → (k ≡ text_answer text (length answer)) × (answer ≡ text_after text answer)
text_refused text answer k e h =
    let no : eqb (text_refusal text (length answer)) 0 ≡ false = ne_eqb (text_refusal text (length answer)) 0 (λ z. omega arith) in (
      sym (ap (λ t. cond t (length (solved_text text)) (text_refusal text (length answer))) no ∙ e),
      sym (ap (λ t. cond t (overwrite (solved_text text) answer) answer) no),
    )

-- the answer's length, and its text before what else the slice held
pub text_given : (text answer : List ℕ) → text_refusal text (length answer) ≡ 0
    → (length (solved_text text) ≡ text_answer text (length answer)) × (overwrite (solved_text text) answer ≡ text_after text answer)
text_given text answer e =
    let yes : eqb (text_refusal text (length answer)) 0 ≡ true = eq-eqb (text_refusal text (length answer)) 0 e in (
      sym (ap (λ t. cond t (length (solved_text text)) (text_refusal text (length answer))) yes),
      sym (ap (λ t. cond t (overwrite (solved_text text) answer) answer) yes),
    )

module _ (text : List ℕ) (room r : ℕ) where
  pub by_reader_long : 26624 < length text → by_reader text room r ≡ 1
  unfolding by_reader
  by_reader_long h = ap (λ t. cond t (cond (eqb r 0) (cond (leb 7168 room) 0 11) r) 1) (lt-leb (length text) 26624 h)

  module _ (h : length text ≤ 26624) where
    within_limit : by_reader text room r ≡ cond (eqb r 0) (cond (leb 7168 room) 0 11) r
    unfolding by_reader
    within_limit = ap (λ t. cond t (cond (eqb r 0) (cond (leb 7168 room) 0 11) r) 1) (le-leb (length text) 26624 h)

    pub by_reader_refused : 1 ≤ r → by_reader text room r ≡ r
    by_reader_refused p = within_limit ∙ ap (λ t. cond t (cond (leb 7168 room) 0 11) r) (ne_eqb r 0 (λ z. omega arith))

    pub by_reader_short : r ≡ 0 → room < 7168 → by_reader text room r ≡ 11
    by_reader_short e l =
        within_limit ∙ ap (λ t. cond t (cond (leb 7168 room) 0 11) r) (eq-eqb r 0 e) ∙ ap (λ t. cond t 0 11) (lt-leb 7168 room l)

    pub by_reader_taken : r ≡ 0 → 7168 ≤ room → by_reader text room r ≡ 0
    by_reader_taken e l =
        within_limit ∙ ap (λ t. cond t (cond (leb 7168 room) 0 11) r) (eq-eqb r 0 e) ∙ ap (λ t. cond t 0 11) (le-leb 7168 room l)

-- ---- what is taken

pub run_checked : (p : ℕ) (A : Matrix) (X b : List ℕ) → first (system_checks p A X b) ≡ 0 → first (run_checks p A X b [] 0) ≡ 0
unfolding run_checks
run_checked p A X b e =
    first_append_none (system_checks p A X b) (check 10 (not (words_taken (size A) [])) ∷ check 13 (not (window_taken 0)) ∷ []) (numbered_system p A X b) e
    ∙ first_pass 10 (words_taken (size A) []) _ (no_words (size A)) (first_pass 13 (window_taken 0) [] refl first_nil)

pub record TextTaken (text : List ℕ) : Type 0 where
  pub fits : length text ≤ 26624
  pub read : first (text_checks text) ≡ 0
  pub rows : (document text).size ≤ 128
  pub entries : (document text).count ≤ 1024

pub text_taken : (text : List ℕ) (room : ℕ) → text_refusal text room ≡ 0 → TextTaken text × (7168 ≤ room)
unfolding text_refusal
text_taken text room e =
    let n = (document text).size in
    let k = (document text).count in
    let last = check 11 (not (leb n 128 && leb k 1024 && leb 7168 room)) ∷ [] in
    let one = first_passed 1 (leb (length text) 26624) (text_checks text ++ last) (omega arith) e in
    let both = first_append_zero (text_checks text) last (numbered_text text) one.1 in
    let small = (first_passed 11 (leb n 128 && leb k 1024 && leb 7168 room) [] (omega arith) both.1).0 in
    let two = and_left (leb n 128 && leb k 1024) (leb 7168 room) small in (
      record {
        fits = leb-true (length text) 26624 one.0;
        read = both.0;
        rows = leb-true n 128 (and_left (leb n 128) (leb k 1024) two);
        entries = leb-true k 1024 (and_right (leb n 128) (leb k 1024) two);
      },
      leb-true 7168 room (and_right (leb n 128 && leb k 1024) (leb 7168 room) small),
    )

pub size_system : (d : Document) → size (system d).matrix ≡ d.size
unfolding system
size_system d = omega (arith, length_table (d.size + 1) (λ i. length (select (λ e. leb (row e) i) d.entries)))

module _ (text : List ℕ) (t : TextTaken text) where
  abbrev s : System
  s = system_of text

  pub system_checked : first (system_checks s.modulus s.matrix s.scales s.right) ≡ 0
  system_checked = (read_and_written text t.read).accepted

  pub solved_small : Small s.modulus (size s.matrix) (solve s.modulus s.matrix s.scales s.right [] 0)
  solved_small =
      run_small s.modulus s.matrix s.scales s.right (run_checked s.modulus s.matrix s.scales s.right system_checked)
      (omega (arith, size_system (document text), t.rows))

  pub solved_fits : length (solved_text text) ≤ 7168
  unfolding solved_text
  solved_fits =
      answer_fits (solve s.modulus s.matrix s.scales s.right [] 0) s.modulus (size s.matrix) solved_small
      (modulus_high s.modulus (system_accepted s.modulus s.matrix s.scales s.right system_checked).prime)
      (omega (arith, size_system (document text), t.rows))

pub solved_long : (text : List ℕ) → 18 < length (solved_text text)
unfolding solved_text
solved_long text = answer_long (solve (system_of text).modulus (system_of text).matrix (system_of text).scales (system_of text).right [] 0)

-- ---- the number returned says which it is

first_high : (k : ℕ) (cs : List Check) → every (λ c. leb c.number k) cs ≡ true → first cs ≤ k
first_high k [] e = omega (arith, first_nil)
first_high k (c ∷ cs) e =
    subst (λ x. x ≤ k) (sym (first_cons c cs))
    (go c.turns_down (leb-true c.number k (every_head (λ c. leb c.number k) c cs e)) (first_high k cs (every_tail (λ c. leb c.number k) c cs e)))
  where
    go : (t : Bool) → c.number ≤ k → first cs ≤ k → cond t c.number (first cs) ≤ k
    go true h ih = h
    go false h ih = ih

pub text_high : (text : List ℕ) (room : ℕ) → text_refusal text room ≤ 11
unfolding text_refusal text_checks document_checks every
text_high text room =
    let d = document text in
    first_high 11
    (check 1 (not (leb (length text) 26624)) ∷ text_checks text ++ (check 11 (not (leb d.size 128 && leb d.count 1024 && leb 7168 room)) ∷ []))
    refl

abbrev pub LengthOrNumber : List ℕ → ℕ → ℕ → Type 0
LengthOrNumber text room r =
    ((text_refusal text room ≡ 0) × (18 < r)) ⊎ ((1 ≤ text_refusal text room) × (text_refusal text room ≤ 11) × (r ≡ text_refusal text room))

pub answer_or_number : (text : List ℕ) (room : ℕ) → LengthOrNumber text room (text_answer text room)
answer_or_number text room = go (text_refusal text room) (text_high text room)
  where
    go : (r : ℕ) → r ≤ 11
        → ((r ≡ 0) × (18 < unless_refused r (length (solved_text text)) r)) ⊎ ((1 ≤ r) × (r ≤ 11) × (unless_refused r (length (solved_text text)) r ≡ r))
    go zero h = inl (refl, solved_long text)
    go (suc r) h = inr (omega arith, h, ap (λ t. cond t (length (solved_text text)) (suc r)) (ne_eqb (suc r) 0 (λ z. omega arith)))

-- what the call answers and leaves
pub record Called (text answer : List ℕ) (r : ℕ) (after : List ℕ) : Type 0 where
  pub number : r ≡ text_answer text (length answer)
  pub slice : after ≡ text_after text answer
  -- "the answer's length, always above 18, or the refusal's number"
  pub which : LengthOrNumber text (length answer) r
  -- request (i): "the printed applications must equal the sum over these lines"
  pub adds_up : text_refusal text (length answer) ≡ 0 → AddsUp (take r after)

solved_adds_up : (text : List ℕ) → AddsUp (solved_text text)
unfolding solved_text
solved_adds_up text = answer_adds_up (solve (system_of text).modulus (system_of text).matrix (system_of text).scales (system_of text).right [] 0)

pub called : (text answer : List ℕ) (r : ℕ) (after : List ℕ) → (r ≡ text_answer text (length answer)) × (after ≡ text_after text answer) → Called text answer r after
called text answer r after e =
    record {
      number = e.0;
      slice = e.1;
      which = subst (LengthOrNumber text (length answer)) (sym e.0) (answer_or_number text (length answer));
      adds_up =
          λ none.
          let given = text_given text answer none in
          let T = solved_text text in
          let whole : take r after ≡ T =
          ap₂ take (e.0 ∙ sym given.0) (e.1 ∙ sym given.1) ∙ take_at T (drop (length T) answer) (length T) refl in
          subst AddsUp (sym whole) (solved_adds_up text);
    }
