-- The numbers that bound a watch. Assumes nothing.
use Rattle.std.specs.Prelude.{ℕ}

-- Threads, from 1 on.
abbrev pub most_threads : ℕ
most_threads = 4

-- Places go from 0 to 511.
abbrev pub last_place : ℕ
last_place = 511

abbrev pub places : ℕ
places = 512

-- Kinds of an epoch: 0 to read, 1 to read and write.
abbrev pub last_kind : ℕ
last_kind = 1

-- In a thread.
abbrev pub most_outstanding : ℕ
most_outstanding = 64

abbrev pub most_commits : ℕ
most_commits = 1000000

abbrev pub most_open : ℕ
most_open = 32

-- In the watch.
abbrev pub most_begins : ℕ
most_begins = 1000000

abbrev pub most_owed : ℕ
most_owed = 32

abbrev pub most_waiting : ℕ
most_waiting = 128
