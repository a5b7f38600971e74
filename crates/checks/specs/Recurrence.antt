-- What the checks of a shortest recurrence leave known (meaning's Calls).
--     Accepted, accepted         what 0 says
use Rattle.std.specs.Prelude.{◌≡◌, true, ◌&&◌, List, ℕ, ◌+◌, ◌*◌, ◌≤◌, ◌<◌, eqb, leb, length}
use Rattle.std.proofs.Common.{arith, leb-true, eqb-true, ltb-true}
use Rattle.meaning.specs.List.{at}
use Rattle.meaning.specs.Field.{is_modulus}
use Rattle.meaning.specs.Refusal.{elements}
use Rattle.meaning.specs.Calls.{recurrence_refusal}
use Rattle.laws.specs.Bool.{and_left, and_right}
use Rattle.laws.specs.List.{every_at}
use Rattle.laws.specs.Refusal.{first_passed}

pub record Accepted (p : ℕ) (s polynomial work : List ℕ) : Type 0 where
  pub none : recurrence_refusal p s polynomial work ≡ 0
  pub modulus : is_modulus p ≡ true
  pub few : length s ≤ 8192
  pub below : (i : ℕ) → i < length s → at s i < p
  pub size : length polynomial ≡ length s + 1
  pub room : 4 * length s + 8 ≤ length work

pub accepted : (p : ℕ) (s polynomial work : List ℕ) → recurrence_refusal p s polynomial work ≡ 0 → Accepted p s polynomial work
unfolding recurrence_refusal elements
accepted p s polynomial work z =
    let a = first_passed 3 (is_modulus p) _ (omega arith) z in
    let b = first_passed 8 (leb (length s) 8192) _ (omega arith) a.1 in
    let c = first_passed 9 (elements p s) _ (omega arith) b.1 in
    let e = (first_passed 11 (eqb (length polynomial) (length s + 1) && leb (4 * length s + 8) (length work)) _ (omega arith) c.1).0 in
    record {
      none = z;
      modulus = a.0;
      few = leb-true (length s) 8192 b.0;
      below = λ i l. ltb-true (at s i) p (every_at _ s 0 c.0 i l);
      size = eqb-true (length polynomial) (length s + 1) (and_left (eqb (length polynomial) (length s + 1)) _ e);
      room = leb-true (4 * length s + 8) (length work) (and_right (eqb (length polynomial) (length s + 1)) _ e);
    }
