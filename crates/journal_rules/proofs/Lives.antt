-- The laws of a book's life hold of each list of calls that the book offers. Assumes nothing.
use Rattle.std.proofs.Common.{◌≡◌, ℕ, List, ◌∷◌, ◌++◌, sym, subst}
use Rattle.sharing.specs.Rule.{Rule}
use Rattle.bill_rules.specs.Bill.{Lengths}
use Rattle.book_rules.specs.Run.{State, Call, bill, Offered, final}
use Rattle.book_rules.specs.Laws.{LawsOfALife}
use Rattle.journal_line.specs.declared.calls.Command.{Command}
use Rattle.sharing.specs.declared.names.RuleName.{RuleName}
use Rattle.journal_rules.specs.Journal.{Journal, calls_of}
use Rattle.journal_rules.specs.LawsOf.{LawsOf}
use Rattle.journal_rules.proofs.Calls.{offered-++, offered_before, offered_behind, calls_offered}

module _ (s : State) (calls : List Call) (life : LawsOfALife s) (offered-all : Offered s calls) where
  moved : (before behind : List Call) (rule : Rule) (n : ℕ) (p : Lengths) → calls ≡ before ++ (bill rule n p ∷ behind) → Offered s (before ++ (bill rule n p ∷ behind))
  moved before behind rule n p e = subst (λ (l : List Call). Offered s l) e offered-all

  pub laws_of : LawsOf s calls
  laws_of = record {
    follows = λ before behind rule n p e.
        let all = moved before behind rule n p e in
        life.bills_follow_the_rows.answer before rule n p (offered_before s before (bill rule n p ∷ behind) all) (offered_behind s before (bill rule n p ∷ behind) all).0;
    balances = λ before behind rule n p f e.
        let all = moved before behind rule n p e in
        life.bills_follow_the_rows.balance before rule n p f (offered_before s before (bill rule n p ∷ behind) all) (offered_behind s before (bill rule n p ∷ behind) all).0;
    close = λ before behind rule n p l e.
        life.bills_follow_the_rows.close before rule l (offered_before s before (bill rule n p ∷ behind) (moved before behind rule n p e));
    alike = λ z number units costs marks other rule n p p' opens same others-offered.
        life.agreeing_books_bill_alike z number units costs marks opens calls other rule n p p' same offered-all others-offered;
    offered = life.a_voided_pass_leaves_no_trace.offered calls offered-all;
    others = life.a_voided_pass_leaves_no_trace.others calls offered-all;
    ends = life.a_voided_pass_leaves_no_trace.ends calls offered-all;
  }

-- what a list of commands adds to the calls that led to its journal
pub journal_lives : (s : State) (before : List Call) (rules : RuleName → Rule) (j : Journal) (commands : List Command) → LawsOfALife s → Offered s before → final s before ≡ j.state →
    LawsOf s (before ++ calls_of rules j commands)
journal_lives s before rules j commands life offered leads =
    laws_of s (before ++ calls_of rules j commands) life
    (offered-++ s before (calls_of rules j commands) offered (subst (λ (t : State). Offered t (calls_of rules j commands)) (sym leads) (calls_offered rules j commands)))
