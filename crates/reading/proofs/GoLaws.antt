-- Lines read one after the other come to what the reading of a file comes to, also in two parts, and over records in a row.
use Prim.Native.Nat.{ℕ, ◌+◌, ◌≤◌}
use mathlib.Core.Bool.{Bool, true, false}
use mathlib.Core.List.{List, [], ◌∷◌, ◌++◌}
use mathlib.Core.Path.{◌≡◌, refl, sym, ap, subst, ◌∙◌}
use native.Mathlib.Omega.{arith}
use lib.ListN.{length}
use Rattle.std.specs.Prelude.{Ok, Err}
use Rattle.rules.specs.Text.{is_name_character}
use Rattle.rules.specs.Reading.{at_start, step_at, Module, Item, free, section, module_at, ReadSoFar, read_so_far, unread, module_done, stepped, if_complete, read_lines, read_lines_over, read_line_over, Reading, Complete, Stopped}
use Rattle.rules.specs.declared.line.Expected.{Expected}
use Rattle.rules.specs.declared.reading.Mode.{Mode}
use Rattle.rules.specs.declared.reading.Part.{Part}
use Rattle.rules.specs.declared.reading.Step.{Step}
use Rattle.rules.specs.declared.reading.Step.TheVariants.{Stop, Next, Add, CloseModule, CloseSection}
use Rattle.rules.proofs.FirstFault.{lines_after}
use Rattle.rules.proofs.FoldLaws.{on_step, read_from}
use Rattle.rules.proofs.TestLaws.{Every}
use Rattle.runs.specs.Runs.{IsRecord, RecordsRead}
use Rattle.runs.specs.declared.Run.{Run}
use Rattle.rules.proofs.BoolLaws.{never}
use Rattle.runs.specs.Modes.{one_done, after_records, room_for}
use Rattle.runs.proofs.ModeLaws.{Does, adds, goes, record_step, room_behind, after_front}
use Rattle.reading.specs.Lines.{Reached, gone_on, go_on, told, ended_at, RunFrom}

-- ---- the fault

-- one line, where the law holds of the lines behind it
module _
    (ls : List (List ℕ)) (n : ℕ) (m : Mode) (ps : List Part) (ms : List Module) (is : List Item)
    (rest :
    (m' : Mode) (ps' : List Part) (ms' : List Module) (is' : List Item)
    → (read_lines (read_so_far (n + 1) m' ps' ms' is' Complete) ls).fault ≡ told (go_on (n + 1) m' ls)) where
  member_fault :
      (t : Bool) (m' : Mode) (md : Module)
      → (read_lines (module_done (read_so_far n m ps ms is Complete) t m' md) ls).fault ≡ told (go_on (n + 1) m' ls)
  unfolding module_done
  member_fault true m' md = rest m' [] (ms ++ (md ∷ [])) is
  member_fault false m' md = rest m' [] ms (is ++ (free md ∷ []))

  step_fault :
      (a : Step)
      → (read_lines (stepped (read_so_far n m ps ms is Complete) a) ls).fault ≡ told (gone_on n a (λ m'. go_on (n + 1) m' ls))
  unfolding stepped gone_on told
  step_fault (Stop k c) = ap (λ (r : ReadSoFar). r.fault) (lines_after is_name_character ls (read_so_far n m ps ms is (Stopped k n c)) k n c refl)
  step_fault (Next m') = rest m' ps ms is
  step_fault (Add m' p) = rest m' (ps ++ (p ∷ [])) ms is
  step_fault (CloseModule m' line) = member_fault m'.section.inside m' (module_at line ps)
  step_fault (CloseSection m' line) = rest m' [] [] (is ++ (section line ms ∷ []))

fold_fault :
    (ls : List (List ℕ)) (n : ℕ) (m : Mode) (ps : List Part) (ms : List Module) (is : List Item)
    → (read_lines (read_so_far n m ps ms is Complete) ls).fault ≡ told (go_on n m ls)
unfolding read_lines_over read_line_over if_complete go_on told
fold_fault [] n m ps ms is = refl
fold_fault (l ∷ ls) n m ps ms is = step_fault ls n m ps ms is (fold_fault ls (n + 1)) (step_at n m l)

pub lines_fault : (ls : List (List ℕ)) → (read_lines unread ls).fault ≡ told (go_on 1 at_start ls)
unfolding unread
lines_fault ls = fold_fault ls 1 at_start [] [] []

-- ---- lines behind others

-- what they come to, where those in front of them come to this
unfoldable pub behind : Reached → List (List ℕ) → Reached
behind (Ok c) ks = go_on c.line c.mode ks
behind (Err s) ks = Err s

step_on :
    (n : ℕ) (a : Step) (go on : Mode → Reached) (ks : List (List ℕ))
    → ((m : Mode) → on m ≡ behind (go m) ks) → gone_on n a on ≡ behind (gone_on n a go) ks
unfolding gone_on behind
step_on n (Stop k c) go on ks f = refl
step_on n (Next m) go on ks f = f m
step_on n (Add m p) go on ks f = f m
step_on n (CloseModule m line) go on ks f = f m
step_on n (CloseSection m line) go on ks f = f m

pub go_append : (ls ks : List (List ℕ)) (n : ℕ) (m : Mode) → go_on n m (ls ++ ks) ≡ behind (go_on n m ls) ks
unfolding go_on behind
go_append [] ks n m = refl
go_append (l ∷ ls) ks n m =
    step_on n (step_at n m l) (λ k. go_on (n + 1) k ls) (λ k. go_on (n + 1) k (ls ++ ks)) ks (go_append ls ks (n + 1))

-- ---- the end of the file

step_ended : (n : ℕ) (a : Step) (go : Mode → Reached) (read : Mode → Reading) → ((m : Mode) → ended_at (go m) ≡ read m) → ended_at (gone_on n a go) ≡ on_step n a read
unfolding gone_on ended_at on_step
step_ended n (Stop k c) go read f = refl
step_ended n (Next m) go read f = f m
step_ended n (Add m p) go read f = f m
step_ended n (CloseModule m line) go read f = f m
step_ended n (CloseSection m line) go read f = f m

pub ended_is : (ls : List (List ℕ)) (n : ℕ) (m : Mode) → ended_at (go_on n m ls) ≡ read_from n m ls
unfolding go_on ended_at read_from
ended_is [] n m = refl
ended_is (l ∷ ls) n m = step_ended n (step_at n m l) (λ k. go_on (n + 1) k ls) (λ k. read_from (n + 1) k ls) (ended_is ls (n + 1))

-- ---- records in a row

-- none where what the lines say is kept
pub no_run : (file : List ℕ) (at : ℕ) (m : Mode) (keep : Bool) → at ≤ length file → RunFrom file at m keep (record { count = 0; next = at })
no_run file at m keep h =
    record {
      reads = record { records = []; lines = refl; count = refl; say = tt; few = omega arith; moves = omega arith; ends = h };
      none_kept = λ e. refl;
    }

pub a_run :
    {file : List ℕ} {at : ℕ} (m : Mode) {keep : Bool} → keep ≡ false → {most : ℕ} → most ≡ room_for m → {r : Run}
    → RecordsRead m.expected at file most r → RunFrom file at m keep r
a_run {file} {at} m k {most} e {r} q =
    record {
      reads = subst (λ (n : ℕ). RecordsRead m.expected at file n r) e q;
      none_kept = λ t. never t k;
    }

module _ (e : Expected) (more : List (List ℕ)) where
  -- a record's step, whatever it does, leads on
  leads : (n : ℕ) (m : Mode) (s : Step) (go : Mode → Reached) → Does m s → gone_on n s go ≡ go (one_done m)
  unfolding gone_on
  leads n m s go (adds p q) = ap (λ (x : Step). gone_on n x go) q
  leads n m s go (goes q) = ap (λ (x : Step). gone_on n x go) q

  one_record : (l : List ℕ) (ls : List (List ℕ)) (n : ℕ) (m : Mode) → m.expected ≡ e → IsRecord e l → 1 ≤ room_for m → go_on n m (l ∷ ls) ≡ go_on (n + 1) (one_done m) ls
  unfolding go_on
  one_record l ls n m w s h =
      leads n m (step_at n m l) (λ k. go_on (n + 1) k ls) (record_step n m l (subst (λ (x : Expected). IsRecord x l) (sym w) s) h)

  pub go_records : (ls : List (List ℕ)) (n : ℕ) (m : Mode) → m.expected ≡ e → Every (IsRecord e) ls → length ls ≤ room_for m → go_on n m (ls ++ more) ≡ go_on (n + length ls) (after_records (length ls) m) more
  unfolding after_records
  go_records [] n m w s h = ap (λ (k : ℕ). go_on k m more) (omega arith)
  go_records (l ∷ []) n m w s h = one_record l more n m w s.0 h
  go_records (l ∷ x ∷ ls) n m w s h =
      let room = room_behind m (omega arith) in
      one_record l (x ∷ ls ++ more) n m w s.0 (omega arith)
      ∙ go_records (x ∷ ls) (n + 1) (one_done m) (room.expects ∙ w) s.1 (omega (arith, room.room))
      ∙ ap (λ (k : ℕ). go_on k (after_records (length (x ∷ ls)) (one_done m)) more) (omega arith)
      ∙ ap (λ (k : Mode). go_on (n + length (l ∷ x ∷ ls)) k more) (after_front (length (x ∷ ls)) m)
