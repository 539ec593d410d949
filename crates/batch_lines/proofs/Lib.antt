-- The law of the loop over the lines, which its proof cites.
mod Filling
