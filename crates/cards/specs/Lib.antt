-- What the code of rule cards answers. What a card is stands in `card_format`, and what is found out about its bytes in `card_records`.
-- docs/REFERENCE.md, 17
pub mod Answers
pub mod Laws
