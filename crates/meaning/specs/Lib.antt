-- Document 01 as definitions that run.
pub mod List  -- sums, tables and tests over lists of numbers
pub mod Field  -- the modulus and the field's operations
pub mod Matrix  -- a matrix, its products, its powers and polynomials
pub mod Recurrence  -- shortest recurrences, by document 002's steps
pub mod Solver  -- projections, passes, the run, its verdict and its bill; the two checks of offered answers
pub mod ThirdCondition  -- the customer's third condition
pub mod Text  -- numerals, lines, and a system as text
pub mod Answer  -- the text of an answer and of a refusal
pub mod Inverses  -- the table of inverses modulo 251, and what its program prints
pub mod Refusal  -- the checks with their numbers, and which is first
pub mod Calls  -- what each call refuses, answers and leaves in its slices
