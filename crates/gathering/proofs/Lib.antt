-- The laws of the loop over the starts, which its proof cites.
mod Starts
