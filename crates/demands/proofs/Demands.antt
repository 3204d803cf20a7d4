-- The three demands of the acceptance inspector, sentence by sentence, as theorems: a file for each demand. Then the requests of
-- document 02 that have landed, a file for each: Unnamed is E1.
--
-- They are about contracts: what goes in, what comes back, and what is left in each lent row. The functions that have them have
-- no `requires`. Of the entries that a host calls,
--     station_match   has HostOf      bytes job room r room-after
--     station_lent    has LentOf      table list class work r class_after work_after
--     station_check   has CheckedOf   table class work r class_after work_after
--     station_write   has WrittenOf   sizes bodies room r room-after
--     station_read    has SizesOf     bytes sizes r sizes_after
-- where r is the number that is returned; out of it `answer_in`, `place_in` and `joins_in` take what STATION_ANSWER_OF,
-- STATION_PLACE_OF and STATION_JOINS_OF do. Inside, the table check has CheckOf, a match MatchOf, the reader ReadOf and the
-- writer WriteOf.
--
-- Above the theorems stand the names of the definitions that they speak of, and below each theorem the name of what proves it.
pub mod One
pub mod Two
pub mod Three
pub mod Unnamed
