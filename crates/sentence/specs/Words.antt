-- The words for limits and ranges, for faults of a text, and for what some refusals and laws are about. A bound that they name is the one of its definition.
use Rattle.std.specs.Prelude.{ℕ, List, [], ◌∷◌, ◌++◌, get_or, Some, None, codes, Option, decimal}
use Rattle.ordering.specs.declared.class.Class.{Class}
use Rattle.ordering.specs.declared.class.Class.TheVariants.{Load, Store, Barrier}
use Rattle.semantics.specs.Classes.{last_class}
use Rattle.semantics.specs.Limits.{most_threads, last_place, last_kind, most_outstanding, most_commits, most_open, most_begins, most_owed, most_waiting}
use Rattle.semantics.specs.declared.verdict.Limit.{Limit}
use Rattle.semantics.specs.declared.verdict.Limit.TheVariants.{Outstanding, Commits, Open, Begins, Owed, Waiting}
use Rattle.event.specs.declared.event.Event.{Event}
use Rattle.event.specs.declared.event.Event.TheVariants as event
use Rattle.text.specs.declared.limits.TheConstants.{MAX_TEXT, MAX_LINE}
use Rattle.line.specs.declared.fault.Garbled.{Garbled}
use Rattle.line.specs.declared.fault.Garbled.TheVariants.{TextLength, LineLength, Heading, FieldCount, Unknown, Number, Unused, End}
use Rattle.explain.specs.declared.parts.Commit.{Commit}
use Rattle.explain.specs.declared.parts.Operation.{Operation}

-- What an operation of a class lacks.
abbrev pub class_lack : Class → List ℕ
class_lack Load = codes "it has no epoch open, and no earlier store outstanding, on"
class_lack Store = codes "it has no write epoch open on"
class_lack (Barrier m) = codes "it has no leave on"

-- What an operation lacks, by its commit where the text has one.
abbrev pub commit_lack : Option Commit → List ℕ
commit_lack None = codes "it has no leave on"
commit_lack (Some c) = class_lack c.class

abbrev pub lack_text : Operation → List ℕ
lack_text o = commit_lack o.commit

-- What the second number of an event has to be: of a begin a kind, else a class.
abbrev pub kinds_text : Option Event → List ℕ
kinds_text (Some (event.Begin t k p v τ)) = codes "kind of epochs: they are 0 and " ++ decimal last_kind
kinds_text _ = codes "class of operations: they are 0 to " ++ decimal last_class

-- What has begun too early for an event.
abbrev pub begun_text : Option Event → List ℕ
begun_text (Some (event.Preset p v)) = codes "the preset comes after the first begin on"
begun_text _ = codes "the thread has an epoch open already on"

-- A number as a word where it is small, else in digits.
abbrev pub spelled : ℕ → List ℕ
spelled n = get_or (codes "no" ∷ codes "one" ∷ codes "two" ∷ codes "three" ∷ codes "four" ∷ []) n (decimal n)

-- How many threads a recording has.
abbrev pub threads_text : List ℕ
threads_text = codes "one to " ++ spelled most_threads ++ codes " threads"

-- How places are numbered.
abbrev pub places_text : List ℕ
places_text = codes "0 to " ++ decimal last_place

-- What a limit bounds.
abbrev pub limit_text : Limit → List ℕ
limit_text Outstanding = codes "a thread has at most " ++ decimal most_outstanding ++ codes " operations outstanding"
limit_text Commits = codes "a thread commits at most " ++ decimal most_commits ++ codes " operations"
limit_text Open = codes "a thread has at most " ++ decimal most_open ++ codes " epochs open"
limit_text Begins = codes "a recording has at most " ++ decimal most_begins ++ codes " begins"
limit_text Owed = codes "at most " ++ decimal most_owed ++ codes " notices are owed"
limit_text Waiting = codes "at most " ++ decimal most_waiting ++ codes " notices wait for their judgment"

-- What is wrong with a text.
abbrev pub fault_text : Garbled → List ℕ
fault_text TextLength = codes "the text has more than " ++ decimal MAX_TEXT ++ codes " bytes"
fault_text LineLength = codes "the line has more than " ++ decimal MAX_LINE ++ codes " bytes with its line feed, or no line feed ends it"
fault_text Heading = codes "the line differs from the heading that has to stand there"
fault_text FieldCount = codes "the line has too few fields or too many"
fault_text Unknown = codes "the first word names no rule on line 2, or no event on a later line"
fault_text Number = codes "a field that has to be a number is none, or is not written in the one way it can be"
fault_text Unused = codes "a number that the event does not take is not 0"
fault_text End = codes "the text ends where a line is due, or goes on after its close"
