-- What the gateway program writes. Its rule and the answer to a line stand in `gateway_answers`.
-- docs/REFERENCE.md, 19.1
pub mod Gateway
pub mod Examples
pub mod Promises
pub mod Laws
