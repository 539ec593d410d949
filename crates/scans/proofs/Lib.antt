-- The laws of the loop over the searches, which its proof cites.
mod Rows
