-- The laws of the loop over the ends of a start, which its proof cites.
mod EndsLemmas
