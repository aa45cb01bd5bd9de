-- Written by lists/manual.py from the lists: change these.
use Rattle.std.specs.Prelude.{List, [], ◌∷◌}
use Rattle.manual_lists.specs.Clock.{Line, clock, now, r, r?, w}

-- lists/differences/clock-clear-read.list
abbrev pub clock_clear_read : List Line
clock_clear_read =
    clock
    ∷ r? 0x001c
    ∷ w 0x001c 0x1
    ∷ []

-- lists/differences/clock-control-reads-1.list
abbrev pub clock_control_reads_1 : List Line
clock_control_reads_1 =
    clock
    ∷ r 0x000c 0x0
    ∷ w 0x000c 0x0
    ∷ w 0x000c 0xfffffffe
    ∷ r 0x000c 0x0
    ∷ w 0x000c 0x1
    ∷ r 0x000c 0x1
    ∷ []

-- lists/differences/clock-follows-host.list
abbrev pub clock_follows_host : List Line
clock_follows_host =
    clock
    ∷ now 1000
    ∷ w 0x000c 0x1
    ∷ w 0x0008 0x64
    ∷ now 1005
    ∷ r 0x0000 0x69
    ∷ now 995
    ∷ r 0x0000 0x69
    ∷ []

-- lists/differences/clock-identity-between.list
abbrev pub clock_identity_between : List Line
clock_identity_between =
    clock
    ∷ r 0x0fe0 0x31
    ∷ r? 0x0fe1
    ∷ r? 0x0fe3
    ∷ r? 0x0fff
    ∷ []

-- lists/differences/clock-load-match.list
abbrev pub clock_load_match : List Line
clock_load_match =
    clock
    ∷ now 1000
    ∷ w 0x000c 0x1
    ∷ w 0x0004 0x7
    ∷ w 0x0008 0x7
    ∷ r 0x0014 0x1
    ∷ []

-- lists/differences/clock-match-no-effect.list
abbrev pub clock_match_no_effect : List Line
clock_match_no_effect =
    clock
    ∷ now 1000
    ∷ w 0x000c 0x1
    ∷ w 0x0008 0x3e8
    ∷ w 0x0004 0x3ea
    ∷ w 0x0010 0x1
    ∷ now 1002
    ∷ r 0x0000 0x3ea
    ∷ r 0x0014 0x1
    ∷ r 0x0018 0x1
    ∷ []

-- lists/differences/clock-out-of-range.list
abbrev pub clock_out_of_range : List Line
clock_out_of_range =
    clock
    ∷ now 1000
    ∷ w 0x000c 0x1
    ∷ w 0x0008 0xffffffff
    ∷ r 0x0000 0xffffffff
    ∷ now 1001
    ∷ r 0x0000 0x0
    ∷ clock
    ∷ now 4294967295
    ∷ w 0x000c 0x1
    ∷ w 0x0008 0x5
    ∷ now 4294967296
    ∷ r 0x0000 0x6
    ∷ []

-- lists/differences/clock-reserved.list
abbrev pub clock_reserved : List Line
clock_reserved =
    clock
    ∷ now 1000
    ∷ r? 0x0020
    ∷ r? 0x0002
    ∷ r? 0x1000
    ∷ w 0x0020 0xffffffff
    ∷ w 0x0009 0xffffffff
    ∷ w 0x0000 0xffffffff
    ∷ []

-- lists/differences/clock-restarts.list
abbrev pub clock_restarts : List Line
clock_restarts =
    clock
    ∷ now 1000
    ∷ w 0x0008 0x5
    ∷ w 0x000c 0x3
    ∷ r 0x0000 0x5
    ∷ w 0x000c 0x1
    ∷ now 1010
    ∷ r 0x0000 0xf
    ∷ r 0x0008 0x5
    ∷ []

-- lists/differences/clock-runs-from-reset.list
abbrev pub clock_runs_from_reset : List Line
clock_runs_from_reset =
    clock
    ∷ now 1000
    ∷ r 0x0000 0x0
    ∷ now 1007
    ∷ r 0x0000 0x0
    ∷ []

-- lists/guests/linux-clock-alarm.list
abbrev pub linux_clock_alarm : List Line
linux_clock_alarm =
    clock
    ∷ now 1000
    ∷ w 0x000c 0x1
    ∷ w 0x0008 1000
    ∷ r 0x000c 0x1
    ∷ w 0x000c 0x1
    ∷ r 0x0000 0x3e8
    ∷ w 0x0004 0x3ed
    ∷ w 0x001c 0x1
    ∷ r 0x0010 0x0
    ∷ w 0x0010 0x1
    ∷ r 0x0004 0x3ed
    ∷ now 1005
    ∷ r 0x0000 0x3ed
    ∷ r 0x0014 0x1
    ∷ r 0x0018 0x1
    ∷ w 0x001c 0x1
    ∷ r 0x0010 0x1
    ∷ w 0x0010 0x0
    ∷ r 0x0010 0x0
    ∷ []

-- lists/guests/linux-clock-start.list
abbrev pub linux_clock_start : List Line
linux_clock_start =
    clock
    ∷ now 1000
    ∷ w 0x000c 0x1
    ∷ w 0x0008 1000
    ∷ w 0x0008 0x5
    ∷ now 1001
    ∷ r 0x0000 0x6
    ∷ r 0x000c 0x1
    ∷ w 0x000c 0x1
    ∷ now 1010
    ∷ r 0x0000 0xf
    ∷ r 0x0008 0x5
    ∷ []
