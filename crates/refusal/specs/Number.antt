-- The number of each refusal, and of what a call answers.
--     number_of r          from 1 to 13
--     refused_by answer    the number of the check that turned the input down, 0 if none did
--     number_positive      no refusal has the number 0
use Rattle.std.specs.Prelude.{◌≢◌, ℕ, Result, Ok, Err}
use Rattle.std.proofs.Common.{arith}
use Rattle.refusal.specs.declared.Refusal.{Refusal}
use Rattle.refusal.specs.declared.Refusal.TheVariants.{TextLength, Form, Modulus, Size, Shape, Places, Values, Lengths, Elements, Words, Room, Zero, Window}

abbrev pub number_of : Refusal → ℕ
number_of TextLength = 1
number_of Form = 2
number_of Modulus = 3
number_of Size = 4
number_of Shape = 5
number_of Places = 6
number_of Values = 7
number_of Lengths = 8
number_of Elements = 9
number_of Words = 10
number_of Room = 11
number_of Zero = 12
number_of Window = 13

abbrev pub refused_by : {A : Type 0} → Result A Refusal → ℕ
refused_by (Ok _) = 0
refused_by (Err r) = number_of r

pub number_positive : (r : Refusal) → number_of r ≢ 0
number_positive TextLength = omega arith
number_positive Form = omega arith
number_positive Modulus = omega arith
number_positive Size = omega arith
number_positive Shape = omega arith
number_positive Places = omega arith
number_positive Values = omega arith
number_positive Lengths = omega arith
number_positive Elements = omega arith
number_positive Words = omega arith
number_positive Room = omega arith
number_positive Zero = omega arith
number_positive Window = omega arith
