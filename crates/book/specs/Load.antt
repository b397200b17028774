-- Loading a unit file into an open book: the posts and costs that it makes, and what it reports.
--   report_number   the refusal's number, 0 if there is none
--   refusal_of      the refusal of the file or of the book
--   reported        a report: the rows posted, the byte place reached, what stopped the load if anything did
--   report_refusal  the refusal of a report, if it has one
--   ended           the report of the rows and the place so far, by what the load answered
--   Loading         the calls that a load makes, and its report
--   stopped, whole  a load that stops, and one that comes to the end of its file
--   refusal_in      the refusal that an answer gives
--   call_for        the call that a record asks for: a unit row is posted, a cost row added, a note skipped
--   load_from       a load from a place of the file on, of at most so many records, after so many rows
--   Took            what one record does to a book, and how many rows it posts
--   Done            a load has reported, and left a state, as a definition says
--   same_sizes      a file's sizes are the book's
--   load_refusal    what refuses a load before any byte is read: the tables, and then the pass
--   header_in       the sizes in the first record, which has to be the header
--   load_header     a load from its first record on: the header, with the book's sizes
--   load_of         a load
use Rattle.std.specs.Prelude.{◌≡◌, ℕ, zero, suc, ◌+◌, Bool, cond, not, ◌&&◌, ◌||◌, List, [], ◌∷◌, length, Some, None, Ok, Err, Option, Result, ◌==◌}
use Rattle.std.specs.Option.{option_map}
use Rattle.tariff.specs.declared.refusal.Refusal.{Refusal}
use Rattle.tariff.specs.declared.refusal.Refusal.TheVariants.{TableUnfit, PassNotValid, FieldOutOfRange, RecordKind}
use Rattle.tariff.specs.declared.rows.Sizes.{Sizes}
use Rattle.tariff.specs.Refusals.{first_of, number}
use Rattle.unit_file.specs.Records.{Item, header, unit, cost, note}
use Rattle.unit_file.specs.Reading.{open_refusal, record_at, next_place, ordered_at, place_in_order}
use Rattle.book_rules.specs.Machine.{Pass, unmarked, valid, short_tables}
use Rattle.book_rules.specs.Run.{State, Call, post, add_cost, Answer, accepted, gave, row, froze, stayed_open, reopened, billed, refused, not_offered, step, final}
use Rattle.book.specs.declared.load.LoadReport.{LoadReport}
use Rattle.book.specs.declared.load.RefusedLoad.{RefusedLoad}
use Rattle.book.specs.declared.load.RefusedLoad.TheVariants.{File, Book as TheBook}

abbrev pub report_number : Option Refusal → ℕ
report_number None = 0
report_number (Some e) = number e

abbrev pub refusal_of : RefusedLoad → Refusal
refusal_of (File e) = e
refusal_of (TheBook e) = e

abbrev pub reported : ℕ → ℕ → Option RefusedLoad → LoadReport
reported rows place why = record { rows = rows; place = place; refused = why }

abbrev pub report_refusal : LoadReport → Option Refusal
report_refusal r = option_map refusal_of r.refused

abbrev pub ended : ℕ → ℕ → Result (Unit {0}) RefusedLoad → LoadReport
ended rows place (Ok _) = reported rows place None
ended rows place (Err x) = reported rows place (Some x)

pub record Loading : Type 0 where
  pub calls : List Call
  pub report : LoadReport

-- a load that stops without a call
abbrev pub stopped : ℕ → RefusedLoad → ℕ → Loading
stopped rows x place = record { calls = []; report = reported rows place (Some x) }

abbrev pub whole : ℕ → List ℕ → Loading
whole rows bytes = record { calls = []; report = reported rows (length bytes) None }

abbrev pub call_for : Pass → Item → Option Call
call_for p (header z) = None
call_for p (unit u) = Some (post p u)
call_for p (cost r) = Some (add_cost p r)
call_for p (note bytes) = None

abbrev pub refusal_in : Answer → Option Refusal
refusal_in accepted = None
refusal_in (gave p) = None
refusal_in (row n) = None
refusal_in (froze b) = None
refusal_in (stayed_open b e) = Some e
refusal_in (reopened b) = None
refusal_in (billed f) = None
refusal_in (refused e) = Some e
refusal_in not_offered = None

-- a call before the others
abbrev pub first : Call → Loading → Loading
first call l = record { calls = call ∷ l.calls; report = l.report }

-- an accepted call is one row more; a refused one is the last
abbrev pub load_call : Option Refusal → Call → State → ℕ → ℕ → (State → ℕ → Loading) → Loading
load_call None call after place rows go = first call (go after (rows + 1))
load_call (Some e) call after place rows go = first call (stopped rows (TheBook e) place)

abbrev pub load_item : Option Call → State → ℕ → ℕ → (State → ℕ → Loading) → Loading
load_item None s place rows go = go s rows
load_item (Some call) s place rows go = load_call (refusal_in (step s call).answer) call (step s call).state place rows go

abbrev pub load_record : Result (Option Item) Refusal → List ℕ → Pass → State → ℕ → ℕ → (State → ℕ → Loading) → Loading
load_record (Err e) bytes p s place rows go = stopped rows (File e) place
load_record (Ok None) bytes p s place rows go = whole rows bytes
load_record (Ok (Some item)) bytes p s place rows go = load_item (call_for p item) s place rows go

abbrev pub load_from : ℕ → List ℕ → Pass → State → ℕ → ℕ → Loading
load_from zero bytes p s place rows = whole rows bytes
load_from (suc n) bytes p s place rows =
    load_record (ordered_at bytes place) bytes p s place rows (λ after more. load_from n bytes p after (place_in_order bytes place) more)

-- what one record of a file does to a book: nothing, or its call; rows counts the rows posted
abbrev pub rows_or : Option Refusal → Result ℕ Refusal
rows_or None = Ok 1
rows_or (Some e) = Err e

abbrev pub Took : Option Call → State → Result ℕ Refusal → State → Type 0
Took None s r after = (after ≡ s) × (r ≡ Ok 0)
Took (Some call) s r after = (after ≡ (step s call).state) × (r ≡ rows_or (refusal_in (step s call).answer))

-- a load that has ended: it reports as its definition says, and left the state that its calls lead to
pub record Done (start : State) (load : Loading) (now : State) (report : LoadReport) : Type 0 where
  pub reports : report ≡ load.report
  pub makes : now ≡ final start load.calls

abbrev pub same_sizes : Sizes → Sizes → Bool
same_sizes z y = z.customers == y.customers && (z.days == y.days && z.subzones == y.subzones)

-- the first record has to be the header
abbrev pub header_in : Option Item → Result Sizes Refusal
header_in None = Err (RecordKind 1)
header_in (Some (header z)) = Ok z
header_in (Some (unit u)) = Err (RecordKind 1)
header_in (Some (cost r)) = Err (RecordKind 1)
header_in (Some (note n)) = Err (RecordKind 1)

-- its sizes have to be the book's, and the rows come behind it
abbrev pub load_sizes : Result Sizes Refusal → List ℕ → Pass → State → Loading
load_sizes (Err e) bytes p s = stopped 0 (File e) 1
load_sizes (Ok z) bytes p s =
    cond (same_sizes z s.book.sizes) (load_from (length bytes) bytes p s (next_place bytes 1) 0) (stopped 0 (TheBook FieldOutOfRange) 1)

abbrev pub load_header : Result (Option Item) Refusal → List ℕ → Pass → State → Loading
load_header (Err e) bytes p s = stopped 0 (File e) 1
load_header (Ok found) bytes p s = load_sizes (header_in found) bytes p s

abbrev pub load_refusal : State → Pass → Option Refusal
load_refusal s p = first_of (
    (short_tables s.book s.units s.costs || unmarked s.marks, TableUnfit) ∷
    (not (valid s.book s.marks p), PassNotValid) ∷ [])

-- a file that is none is refused at byte 0
abbrev pub load_file : Option Refusal → List ℕ → Pass → State → Loading
load_file (Some e) bytes p s = stopped 0 (File e) 0
load_file None bytes p s = load_header (record_at bytes 1) bytes p s

abbrev pub load_unless : Option Refusal → List ℕ → Pass → State → Loading
load_unless (Some e) bytes p s = stopped 0 (TheBook e) 0
load_unless None bytes p s = load_file (open_refusal bytes) bytes p s

abbrev pub load_of : State → Pass → List ℕ → Loading
load_of s p bytes = load_unless (load_refusal s p) bytes p s
