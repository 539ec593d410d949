-- What the code finds out about the bytes of a card on its way (Walking), and what a card has room for (Room). What a card is stands in `card_format`.
-- docs/REFERENCE.md, 17
pub mod Walking
pub mod Room
pub mod Laws
