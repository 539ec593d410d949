-- Whoever holds a rule can list a line, ask about it and have it explained (Holding); what is explained lies within the line (Closest).
pub mod Holding
pub mod Closest
