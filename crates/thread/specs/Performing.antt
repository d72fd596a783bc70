-- What a perform and an end find in a thread, and what they leave. Assumes nothing.
use Rattle.std.specs.Prelude.{◌≡◌, ℕ, ◌<◌, ◌≤◌, false, cond, not, ◌&&◌, ◌||◌, is_some, List, [], ◌∷◌, ◌++◌, length, position, filter, Some, None, Option, ◌==◌, nat_eq, slice_index_or, slice_set}
use Rattle.semantics.specs.declared.class.OpClass.TheVariants.{Load}
use Rattle.semantics.specs.declared.kind.EpochKind.{EpochKind}
use Rattle.semantics.specs.declared.row.Operation.{Operation}
use Rattle.semantics.specs.declared.row.Epoch.{Epoch}
use Rattle.semantics.specs.Classes.{reads, writes}
use Rattle.semantics.specs.Effect.{touch, load_answer}
use Rattle.semantics.specs.Kinds.{known_kind}
use Rattle.semantics.specs.Laws.{forwarded, end_laws}
use Rattle.semantics.specs.Lists.{change, first_of}
use Rattle.semantics.specs.Puts.{put_clock, put_pending, put_epochs}
use Rattle.semantics.specs.State.{Thread, outstanding_as, epoch_at}
use Rattle.thread.specs.declared.served.Performed.{Performed}
use Rattle.thread.specs.declared.served.Performed.TheVariants.{Done, Forwarded, Copied}
use Rattle.thread.specs.declared.served.Served.{Served}
use Rattle.thread.specs.declared.span.Span.{Span}
use Rattle.thread.specs.Tests.{perform_tests, begin_tests, end_tests}

-- The number that a perform answers.
abbrev pub performed_number : Performed → ℕ
performed_number Done = 0
performed_number Forwarded = 1
performed_number Copied = 2

-- What stands past the rows of a thread's outstanding operations.
abbrev pub no_operation : Operation
no_operation = record { number = 0; class = Load; place = 0; value = 0 }

-- What stands past the rows of a thread's open epochs.
abbrev pub no_epoch : Epoch
no_epoch = record { writes = false; place = 0; from = 0; start = 0; copy = 0; used = 0 }

abbrev pub operation_in : Thread → ℕ → Operation
operation_in w i = slice_index_or w.pending i no_operation

abbrev pub epoch_in : Thread → ℕ → Epoch
epoch_in w i = slice_index_or w.epochs i no_epoch

-- An operation that may perform, if it breaks no law: the one under a number.
pub record Performs (w : Thread) (n τ : ℕ) (o : Operation) : Type 0 where
  pub free : first_of (perform_tests n τ w) ≡ None
  pub found : outstanding_as w n ≡ Some o
  pub time : w.clock ≤ τ

-- An epoch that may begin, of the kind that a number names.
pub record Begins (w : Thread) (n p τ : ℕ) (k : EpochKind) : Type 0 where
  pub free : first_of (begin_tests n p τ w) ≡ None
  pub kind : known_kind n ≡ Some k
  pub place : p < 512
  pub time : w.clock ≤ τ
  pub room : length w.epochs < 32

-- An epoch that may end, if it breaks no law: the row of the one at a place.
pub record Ends (w : Thread) (p τ i : ℕ) : Type 0 where
  pub free : first_of (end_tests p τ w) ≡ None
  pub row : position (λ e. nat_eq e.place p) w.epochs ≡ Some i
  pub found : epoch_at w p ≡ Some (epoch_in w i)
  pub within : i < length w.epochs
  pub time : w.clock ≤ τ

-- The epochs, where an operation uses the one in a row, or none.
abbrev pub used_at : ℕ → Operation → Option ℕ → List Epoch → List Epoch
used_at τ o None es = es
used_at τ o (Some i) es = slice_set es i (touch τ o (slice_index_or es i no_epoch))

-- The row is one of the first n.
abbrev pub Within : Option ℕ → ℕ → Type 0
Within None n = Unit {0}
Within (Some i) n = i < n

-- What an operation that breaks no law answers, and which of the open epochs it uses, by the last earlier store to its place.
pub record ServesBy (f : Option Operation) (es : List Epoch) (o : Operation) (s : Served) : Type 0 where
  pub answer : performed_number s.answer ≡ cond (reads o.class) (load_answer f) 0
  pub uses : (τ : ℕ) → cond (writes o.class || (reads o.class && not (is_some f))) (change (λ e. nat_eq e.place o.place) (touch τ o) es) es ≡ used_at τ o s.uses es
  pub within : Within s.uses (length es)

-- The same in a thread: the answer is `answer_of w o`, and the epochs are `touched w o τ`.
abbrev pub Serves : Thread → Operation → Served → Type 0
Serves w o s = ServesBy (forwarded w o) w.epochs o s

-- A thread without an operation.
abbrev pub retired : ℕ → Thread → Thread
retired n w = put_pending w (filter (λ x. not (x.number == n)) w.pending)

-- A thread with one more open epoch.
abbrev pub with_epoch : Epoch → Thread → Thread
with_epoch e w = put_clock (put_epochs w (w.epochs ++ (e ∷ []))) e.from

-- A thread without the epoch of a place, which ended at a time.
abbrev pub without_epoch : ℕ → ℕ → Thread → Thread
without_epoch p τ w = put_clock (put_epochs w (filter (λ x. not (x.place == p)) w.epochs)) τ

-- The span of an epoch that ends with no law broken.
pub record Spans (t : ℕ) (e : Epoch) (v τ : ℕ) (s : Span) : Type 0 where
  pub lawful : end_laws t e v τ ≡ None
  pub begin : s.begin ≡ e.from
  pub end : s.end ≡ τ
  pub rises : s.begin < s.end
