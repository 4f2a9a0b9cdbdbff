-- The judgement of a store in words.
-- Assumes nothing.
use Rattle.std.specs.Prelude.{◌≡◌, Bool, true, false, List, [], ◌∷◌, ◌++◌, ℕ, ◌+◌, ◌*◌, ◌≤◌, ◌<◌, length}
use Rattle.paper.specs.Answers.{Verdict}
use Rattle.paper.specs.Store.{Entry, entry_long, accepted, refused_at}

-- 24: another kind or state, or an edition below the one before
abbrev pub Misformed : ℕ → Entry → Type 0
Misformed before r = (r.kind ≡ 0x31 → r.state ≤ 2 → before ≤ r.edition → ⊥)

pub record Right (n before : ℕ) (r : Entry) : Type 0 where
  pub kind : r.kind ≡ 0x31
  pub state : r.state ≤ 2
  pub rising : before ≤ r.edition
  pub event : r.event < n

-- every record is right, the first after one of edition `before`
abbrev pub Valid : (n before : ℕ) → List Entry → Type 0
Valid n before [] = Unit {0}
Valid n before (r ∷ rs) = Right n before r × Valid n r.edition rs

-- the edition of the last record, or `before`
abbrev pub edition_after : ℕ → List Entry → ℕ
edition_after before [] = before
edition_after before (r ∷ rs) = edition_after r.edition rs

-- a record's number: 24 before 13
pub data Faulty (n before : ℕ) (r : Entry) (number : ℕ) : Type 0 where
  misformed : Misformed before r → number ≡ 24 → Faulty n before r number
  out_of_range : (Misformed before r → ⊥) → n ≤ r.event → number ≡ 13 → Faulty n before r number

-- the first faulty one of the records rs, which stand from `at` on: those before it are right. It is a whole one, or the one inside of which
-- the store ends.
pub data FirstFault (n at before : ℕ) (cut : Bool) (rs : List Entry) (number place : ℕ) : Type 0 where
  faulty : (fore : List Entry) (r : Entry) (after : List Entry) → rs ≡ fore ++ (r ∷ after) → Valid n before fore → Faulty n (edition_after before fore) r number
      → place ≡ at + entry_long * length fore → FirstFault n at before cut rs number place
  ends_inside : cut ≡ true → Valid n before rs → number ≡ 24 → place ≡ at + entry_long * length rs → FirstFault n at before cut rs number place

-- accepted, or refused for the first faulty record
pub data Judged (n at before : ℕ) (cut : Bool) (rs : List Entry) (v : Verdict) : Type 0 where
  fine : cut ≡ false → Valid n before rs → v ≡ accepted → Judged n at before cut rs v
  refused : (number place : ℕ) → FirstFault n at before cut rs number place → v ≡ refused_at number place → Judged n at before cut rs v
