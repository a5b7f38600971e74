-- Laws of the text call.
--     Bounds       how large a run's numbers are, and how long its answer's text is
--     Checks       its checks, by the reader's
--     Loaded       a system in the arrays, from the reader to the answer
--     Answers      the number that the call answers
--     Program      what the program prints
--     AnswerText   the answer's text by its lines
pub mod Bounds
pub mod Checks
pub mod AnswerText
pub mod Loaded
pub mod Answers
pub mod Program
