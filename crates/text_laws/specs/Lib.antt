-- Laws of the system text (meaning's Text, Refusal and Calls). The theorems stand in RoundTrip, and of the calls in RoundTripCalls.
--     Lists, Tables        lists, tables, selections, neighbours
--     Numeral, Line, Form, Document      bytes and numbers, text and lines, line and form, text and document: each pair is inverse
--     Accepted             what the checks say, as facts on numbers
--     Coordinates          the document of a system
--     WriteRead, ReadWrite system and document are inverse, and one passes the checks if the other does
--     Length               how long a system's text is
--     Bill                 the applications on an answer's text add up
pub mod Lists
pub mod Tables
pub mod Numeral
pub mod Line
pub mod Form
pub mod Document
pub mod Accepted
pub mod Coordinates
pub mod WriteRead
pub mod ReadWrite
pub mod Length
pub mod Bill
pub mod RoundTrip
pub mod RoundTripCalls
