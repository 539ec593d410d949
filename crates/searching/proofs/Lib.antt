-- The laws of the loop over the ends of a first try, which its proof cites.
mod Trying
