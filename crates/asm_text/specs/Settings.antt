-- The directives that may stand once: a second line of one is a fault.
use Rattle.std.specs.Prelude.{ℕ, true, false, if◌then◌else◌, Option, Some, None, Result, Ok, Err}
use Rattle.asm_line.specs.Faults.{map_ok}
use Rattle.asm_line.specs.declared.fault.Fault.{Fault}
use Rattle.asm_line.specs.declared.fault.Fault.TheVariants as fault
use Rattle.asm_text.specs.declared.settings.Settings.{Settings}

-- none of them stands before the first line
abbrev pub no_settings : Settings
no_settings = record { profile = false; slim = None; chain = None; retry = None; trap = None }

-- a directive's number, where no line before has set one
abbrev pub set_once : {A : Type 0} → Option A → A → Result (Option A) Fault
set_once None n = Ok (Some n)
set_once (Some m) n = Err fault.Directive

-- the settings with a line of .profile
abbrev pub profile_set : Settings → Result Settings Fault
profile_set s = if s.profile then Err fault.Directive else Ok (record s { profile = true })

-- the settings with a line of .slim
abbrev pub slim_set : Settings → ℕ → Result Settings Fault
slim_set s n = map_ok (λ o. record s { slim = o }) (set_once s.slim n)

-- the settings with a line of .chain
abbrev pub chain_set : Settings → ℕ → Result Settings Fault
chain_set s n = map_ok (λ o. record s { chain = o }) (set_once s.chain n)

-- the settings with a line of .retry
abbrev pub retry_set : Settings → ℕ → Result Settings Fault
retry_set s n = map_ok (λ o. record s { retry = o }) (set_once s.retry n)

-- the settings with a line of .trap
abbrev pub trap_set : Settings → ℕ → Result Settings Fault
trap_set s n = map_ok (λ o. record s { trap = o }) (set_once s.trap n)
