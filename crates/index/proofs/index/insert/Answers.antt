-- The code stores what the definition says, and the law has the rest.
use mathlib.Core.Path.{refl}
use native.Mathlib.Omega.{arith}
use lib.ListN.{length-set}
use Rattle.index.specs.Index.{words, inserted}
use Rattle.index.specs.Laws.Index.{indexed-more}
use Rattle.index.proofs.index.insert.Goals as goal

pub bounds-index-bucket-2 : goal.bounds-index-bucket-2
bounds-index-bucket-2 c = simp length-set (omega arith)

pub returns : goal.returns
unfolding inserted words
returns c = let a = c.args in
    let p = c.requires in
    record {
      index_after = refl;
      by_index = λ results spans is h. indexed-more a.bucket p.0 p.1 (omega arith) p.3 is h;
    }
