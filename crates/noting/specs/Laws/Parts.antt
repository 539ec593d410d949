-- A part of an area that was lent and came back: the one before n, and the one from n on.
use Rattle.std.specs.Prelude.{◌≡◌, List, ◌++◌, ℕ, ◌-◌, ◌≤◌, length, take, drop}
use Rattle.std.proofs.Common.{◌∙◌, append-nil, arith, length-drop, drop_of_length-le, take_all, take_at, drop_at, length-take-le}

module _ (area : List ℕ) (n : ℕ) where
  pub rest-whole : take (length area - n) (drop n area) ≡ drop n area
  rest-whole = take_all (length area - n) (drop n area) (simp length-drop (omega arith))

  module _ (part : List ℕ) (fits : n ≤ length area) where
    -- before n
    pub front-back : length part ≡ n → take n (part ++ drop n area) ≡ part
    front-back e = take_at part (drop n area) n e

    pub front_rest : length part ≡ n → drop n (part ++ drop n area) ≡ drop n area
    front_rest e = drop_at part (drop n area) n e

    -- from n on
    pub rest-front : take n (take n area ++ (part ++ drop (length area - n) (drop n area))) ≡ take n area
    rest-front = take_at (take n area) (part ++ drop (length area - n) (drop n area)) n (length-take-le n area fits)

    pub rest_back : drop n (take n area ++ (part ++ drop (length area - n) (drop n area))) ≡ part
    rest_back =
        let none : length (drop n area) ≤ length area - n = simp length-drop (omega arith) in
        drop_at (take n area) (part ++ drop (length area - n) (drop n area)) n (length-take-le n area fits) ∙ rw (drop_of_length-le (drop n area) none) (append-nil part)
