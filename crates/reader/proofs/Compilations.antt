-- A rule that was read and linked is compiled: the reading of the whole rule follows from what was parsed with the names that the table spells, and from
-- whether all references are resolved; what linking made stands in the needed part of the area, and the table behind it.
use Rattle.std.specs.Prelude.{⊤, Result, Ok, Err}
use mathlib.Core.Path.{◌≡◌, refl, sym, ap, subst, ◌∙◌}
use mathlib.Core.Bool.{Bool, true, false}
use mathlib.Core.List.{List, [], ◌++◌, append_assoc}
use mathlib.Core.Logic.{inl, inr}
use mathlib.Core.Option.{none, some}
use Prim.Native.Nat.{ℕ, zero, suc, min, ◌+◌, ◌-◌, ◌*◌, ◌≤◌, ◌<◌}
use native.Mathlib.Omega.{arith}
use native.Mathlib.Decide.{dec_lt}
use lib.ListN.{get_or, length, take, drop, length-append, length-take, length-drop, get_or-append}
use lib.Seq.{slice, take_at, drop_at, drop-drop}
use Rattle.syntax.specs.declared.Reason.{Reason}
use Rattle.syntax.specs.declared.Reason.TheVariants.{NoSuchGroup}
use Rattle.syntax.specs.declared.Refusal.{Refusal}
use Rattle.syntax.specs.Limits.{group_limit, rule_area_need, spans_length, level_limit}
use Rattle.syntax.specs.Read.{sound, refused}
use Rattle.syntax.specs.Tree.{Rule}
use Rattle.syntax.specs.Names.{Names}
use Rattle.syntax.specs.Reading.{parsed, names_read, names_of, unresolved, unless, profiled, settled, reading}
use Rattle.syntax.specs.Flags.{depot}
use Rattle.syntax.specs.WellFormed.{levels, WellFormed}
use Rattle.syntax.specs.Laws.Formation.{parsed-formed, well-formed}
use Rattle.name_table.specs.Table.{Spelled, names_in, NamesFit, spelled_same, spelled-next, length-names}
use Rattle.linker.specs.Linking.{Fits, Linkable, Outside, Entered, LinksWhole}
use Rattle.linker.specs.Laws.{fits_whole}
use Rattle.linker.specs.Nodes.{Inside}
use Rattle.linker.proofs.Compiled.{keep}
use Rattle.lengths.specs.Measures.{Deep, Judged, Judges, Followed, Follows}
use Rattle.parts.specs.declared.Part.{Part}
use Rattle.reader.specs.Areas.{table_start}
use Rattle.reader.specs.Says.{Reads}
use Rattle.reader.specs.declared.compiling.Compiled.{Compiled}
use Rattle.reader.specs.Compiles.{StandsWith, Unfollowed, Fails, SaysWith, Says, Compiles}

-- The table -----------------------------------------------------------------------

-- a part of the rule has as many bytes as are asked for
part-long : (s : List ℕ) (from len : ℕ) → (1 ≤ len → from + len ≤ length s) → length (slice from (from + len) s) ≡ len
part-long s from len h = length-drop from (take (from + len) s) ∙ ap (λ (m : ℕ). m - from) (length-take (from + len) s) ∙ by (dec_lt 0 len)
  where
    by : Dec (0 < len) → min (from + len) (length s) - from ≡ len
    by (yes k) = let x = h (omega arith) in omega arith
    by (no k) = omega arith

-- names that fit are spelled
pub fit-spelled : (s table : List ℕ) (g : ℕ) → NamesFit s table g → Spelled s (names_in s table g) table
unfolding names_in
fit-spelled s table zero f = unfold Spelled in tt
fit-spelled s table (suc g) f =
    let l = length-names s table g in
    let k = part-long s (get_or table (2 * g) 0) (get_or table (2 * g + 1) 0) (f.within g (omega arith)) in
    let r = f.room in
    spelled-next s (slice (get_or table (2 * g) 0) (get_or table (2 * g) 0 + get_or table (2 * g + 1) 0) s) (names_in s table g) table
    (rw l (sym k))
    (rw l (ap (λ (m : ℕ). slice (get_or table (2 * g) 0) (get_or table (2 * g) 0 + m) s) (sym k)))
    (fit-spelled s table g (record { room = omega arith; within = λ i u v. f.within i (omega arith) v }))

start-below : table_start ≤ rule_area_need
unfolding table_start
start-below = omega arith

module _ (s : List ℕ) (flags : ℕ) where
  -- What a call of any kind refuses, and what only a check does
  pub fails-reading : (checked : Bool) (f : Refusal) → reading s flags ≡ refused f.place f.reason → Fails checked s flags f
  fails-reading false f e = e
  fails-reading true f e = inl e

  fails-checked : (checked : Bool) (f : Refusal) → checked ≡ true → Unfollowed s flags f → Fails checked s flags f
  fails-checked checked f e u = subst (λ (b : Bool). Fails b s flags f) (sym e) (inr u)

  -- The reading, from the parse ---------------------------------------------------

  pub parse-refused : (place : ℕ) (why : Reason) → ((known : Names) → parsed s flags known ≡ refused place why) → reading s flags ≡ refused place why
  unfolding reading
  parse-refused place why e = rw (e (names_of s flags))

  module _ (names : Names) (t : Rule) (groups at : ℕ) (n : names_of s flags ≡ names) (l : length names ≡ groups) (e : parsed s flags names ≡ sound (t, names) at) where
    pub parse-sound : unresolved groups t ≡ none → reading s flags ≡ profiled (depot flags) t (sound (t, groups) at)
    unfolding reading settled unless
    parse-sound r = rw (n, e, l, r)

    pub parse-dangling : (place : ℕ) → unresolved groups t ≡ some place → reading s flags ≡ refused place NoSuchGroup
    unfolding reading settled unless
    parse-dangling place r = rw (n, e, l, r)

    -- a tree that was parsed fits
    parse-fits : Fits groups spans_length t
    parse-fits = let f = rw e at (parsed-formed s flags names) in rw (← l) (fits_whole (length names) t f.0 f.1 f.2)

    parse-shallow : levels t ≤ level_limit
    parse-shallow = let f = rw e at (parsed-formed s flags names) in f.3

  -- What linking asks, and what it gives -----------------------------------------------

  module _ (area table : List ℕ) (r : Part) (x : Reads s flags area table (Ok r)) where
    abbrev names : Names
    names = names_in s table r.cursor.opened

    many : length names ≡ r.cursor.opened
    many = length-names s table r.cursor.opened

    -- the names do not depend on those that are known
    names-read : names_of s flags ≡ names
    unfolding names_of names_read
    names-read = rw (x.is []).1

    fits : Fits r.cursor.opened spans_length (x.is names).0
    fits = parse-fits names (x.is names).0 r.cursor.opened r.cursor.at names-read many (x.is names).1

    pub linkable : Linkable s r.cursor.opened table area r.node
    linkable =
        let b = start-below in
        record {
          known = names;
          many = many;
          spelled = fit-spelled s table r.cursor.opened x.fit;
          room = x.fit.room;
          stands = record { tree = (x.is names).0; lo = 1; top = r.cursor.used; holds = (x.is names).2; fits = fits; within = x.within; small = omega (arith, x.small) };
        }

    -- What the profile asks, and what it says -----------------------------------------------

    pub measurable : Deep Inside area r.node level_limit
    measurable = record {
      rule = s;
      known = names;
      tree = (x.is names).0;
      lo = 1;
      top = r.cursor.used;
      holds = (x.is names).2;
      within = x.within;
      groups = r.cursor.opened;
      proper = fits.proper;
      deep = parse-shallow names (x.is names).0 r.cursor.opened r.cursor.at names-read many (x.is names).1;
    }

    judging : (j : Result ⊤ Refusal) → Judges (depot flags) area r.node j → Judged (depot flags) (x.is names).0 j
    unfolding Judges
    judging j h = h s names r.cursor.opened (x.is names).0 1 r.cursor.used fits.proper (x.is names).2

    following : (checked : Bool) (j : Result ⊤ Refusal) → Follows checked area r.node j → Followed checked (x.is names).0 j
    unfolding Follows
    following checked j h = h s names r.cursor.opened (x.is names).0 1 r.cursor.used fits.proper (x.is names).2

    -- the first reference to no group
    pub dangling : (new : List ℕ) (f : Refusal) → LinksWhole s r.cursor.opened table area new r.node (Err f) → reading s flags ≡ refused f.place f.reason
    unfolding LinksWhole
    dangling new f y =
        let w = (y names many (fit-spelled s table r.cursor.opened x.fit) (x.is names).0 1 r.cursor.used (x.is names).2 fits).1 in
        rw w.1 (parse-dangling names (x.is names).0 r.cursor.opened r.cursor.at names-read many (x.is names).1 f.place w.0)

    module _ (new : List ℕ) (pc : ℕ) (y : LinksWhole s r.cursor.opened table area new r.node (Ok pc)) where
      made : Outside 1 r.cursor.used area new × Entered r.cursor.opened (x.is names).0 1 r.cursor.used new pc
      unfolding LinksWhole
      made = y names many (fit-spelled s table r.cursor.opened x.fit) (x.is names).0 1 r.cursor.used (x.is names).2 fits

      pub barred : (checked : Bool) (f : Refusal) → Judges (depot flags) area r.node (Err f) → Fails checked s flags f
      barred checked f h =
          let found = judging (Err f) h in
          fails-reading checked f (parse-sound names (x.is names).0 r.cursor.opened r.cursor.at names-read many (x.is names).1 made.1.resolved ∙ found (sound ((x.is names).0, r.cursor.opened) r.cursor.at))

      module _ (keeps : Judges (depot flags) area r.node (Ok tt)) where
        -- what was parsed is read, if every reference is to a group and the profile bars nothing
        whole-read : reading s flags ≡ sound ((x.is names).0, r.cursor.opened) r.cursor.at
        whole-read =
            let passed = judging (Ok tt) keeps in
            parse-sound names (x.is names).0 r.cursor.opened r.cursor.at names-read many (x.is names).1 made.1.resolved ∙ passed (sound ((x.is names).0, r.cursor.opened) r.cursor.at)

        pub unfollowed : (checked : Bool) (f : Refusal) → Follows checked area r.node (Err f) → Fails checked s flags f
        unfollowed checked f g =
            let found = following checked (Err f) g in
            fails-checked checked f found.0 (record { tree = (x.is names).0; groups = r.cursor.opened; stop = r.cursor.at; reads = whole-read; found = found.1 })

        pub entered : (checked : Bool) → Follows checked area r.node (Ok tt) → StandsWith checked s flags new table table_start pc r.cursor.opened
        entered checked g =
            record {
              tree = (x.is names).0;
              stop = r.cursor.at;
              reads = whole-read;
              end = made.0.below 0 (omega arith) ∙ x.end;
              compiled = keep new new 1 r.cursor.used 1 table_start (omega arith) x.small (λ i a b. refl) (x.is names).0 pc 0 spans_length made.1.compiled;
              near = omega (arith, made.1.near, x.small);
              many = rw names-read many;
              named = rw names-read (fit-spelled s table r.cursor.opened x.fit);
              followed = following checked (Ok tt) g;
            }

-- The needed part alone was lent on ---------------------------------------------------

whole-need : table_start + spans_length ≡ rule_area_need
unfolding table_start rule_area_need spans_length group_limit
whole-need = refl

-- the area and the table's part of it, once the first numbers are back
module _ (part old : List ℕ) (long : length part ≡ table_start) (enough : rule_area_need ≤ length old) where
  pub back_long : length (part ++ drop table_start old) ≡ length old
  back_long = let b = start-below in length-append part (drop table_start old) ∙ rw (length-drop table_start old) (omega arith)

  pub part-wide : length (take spans_length (drop table_start (part ++ drop table_start old))) ≡ spans_length
  part-wide =
      let m = whole-need in
      let k = ap length (drop_at part (drop table_start old) table_start long) ∙ length-drop table_start old in
      length-take spans_length (drop table_start (part ++ drop table_start old)) ∙ rw k (omega arith)

-- What stands in the first numbers stands in the whole area, in which the table follows them and whose rest is as it was.
module _ (checked : Bool) (s : List ℕ) (flags : ℕ) (old part table : List ℕ) (long : length part ≡ table_start) (wide : length table ≡ spans_length) (enough : rule_area_need ≤ length old) where
  abbrev pub joined : List ℕ
  joined = part ++ (table ++ drop rule_area_need old)

  front : (i : ℕ) → i < table_start → get_or joined i 0 ≡ get_or part i 0
  front i h = get_or-append part (table ++ drop rule_area_need old) 0 i (omega arith)

  behind : drop table_start joined ≡ table ++ drop rule_area_need old
  behind = drop_at part (table ++ drop rule_area_need old) table_start long

  copied : (i : ℕ) → i < spans_length → get_or (drop table_start joined) i 0 ≡ get_or table i 0
  copied i h = ap (λ (l : List ℕ). get_or l i 0) behind ∙ get_or-append table (drop rule_area_need old) 0 i (omega arith)

  few-names : (groups : ℕ) → groups ≤ group_limit → 2 * groups ≤ spans_length
  unfolding spans_length
  few-names groups h = omega arith

  starts : 0 < table_start
  unfolding table_start rule_area_need spans_length group_limit
  starts = omega arith

  says-wider : (r : Result Compiled Refusal) → SaysWith checked s flags part table table_start r → Says checked s flags joined r
  says-wider (Ok c) x =
      let b = start-below in
      let g : WellFormed c.groups x.tree = rw x.reads at (well-formed s flags) in
      let n = few-names c.groups g.few in
      let m = x.many in
      record {
        tree = x.tree;
        stop = x.stop;
        reads = x.reads;
        end = front 0 starts ∙ x.end;
        compiled = keep part joined 1 table_start 1 rule_area_need (omega arith) b (λ i a u. front i u) x.tree c.entry 0 spans_length x.compiled;
        near = omega (arith, x.near);
        many = x.many;
        named = spelled_same s _ table (drop table_start joined) (λ i l. copied i (omega arith)) x.named;
        followed = x.followed;
      }
  says-wider (Err f) x = x

  rest : drop rule_area_need joined ≡ drop rule_area_need old
  rest =
      let e : length (part ++ table) ≡ rule_area_need = length-append part table ∙ rw (long, wide) whole-need in
      ap (λ (l : List ℕ). drop rule_area_need l) (sym (append_assoc part table (drop rule_area_need old))) ∙ drop_at (part ++ table) (drop rule_area_need old) rule_area_need e

  joined-long : length joined ≡ length old
  joined-long = let e = whole-need in simp (length-append, length-drop) (omega arith)

  pub wider : (r : Result Compiled Refusal) → SaysWith checked s flags part table table_start r → Compiles checked s flags old joined r
  wider r x = record { says = says-wider r x; rest = rest; long = joined-long }

  -- what comes back from the two parts that were lent
  pub is-joined : take table_start (part ++ drop table_start old) ++ (table ++ drop spans_length (drop table_start (part ++ drop table_start old))) ≡ joined
  is-joined =
      let a = take_at part (drop table_start old) table_start long in
      let b = drop_at part (drop table_start old) table_start long in
      let c = drop-drop spans_length table_start old ∙ ap (λ (n : ℕ). drop n old) whole-need in
      rw (a, b, c)

  pub back-joined : length (take table_start (part ++ drop table_start old) ++ (table ++ drop spans_length (drop table_start (part ++ drop table_start old)))) ≡ length old
  back-joined = ap length is-joined ∙ joined-long
