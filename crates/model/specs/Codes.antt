-- What the numbers of document 01's events stand for. Assumes nothing.
use Rattle.std.specs.Prelude.{ℕ, Result, Ok, Err}
use Rattle.notation.specs.Rows.{◌⇒◌∣◌, ◌is◌}
use Rattle.model.specs.declared.outcome.CapabilityResponse.{CapabilityResponse}
use Rattle.model.specs.declared.outcome.Event.{Event}
use Rattle.model.specs.declared.outcome.Timeout.{Timeout}
use Rattle.model.specs.declared.codes.UnknownCode.{UnknownCode}

-- "7 evaluation (a: 0 to 2)": Accept, Reject, Wait, the order of action 7
unfoldable pub evaluation : ℕ → Result CapabilityResponse UnknownCode
evaluation a =
    a is 0 ⇒ Ok CapabilityResponse.Accept ∣
    a is 1 ⇒ Ok CapabilityResponse.Reject ∣
    a is 2 ⇒ Ok CapabilityResponse.Wait ∣
    Err (record {})

-- "9 Event (a: 0 to 8 in the order of `Ready`'s match)"
unfoldable pub event : ℕ → Result Event UnknownCode
event a =
    a is 0 ⇒ Ok Event.None ∣
    a is 1 ⇒ Ok Event.UpdatedSourceCapabilities ∣
    a is 2 ⇒ Ok Event.RequestSinkCapabilities ∣
    a is 3 ⇒ Ok Event.RequestSourceCapabilities ∣
    a is 4 ⇒ Ok Event.RequestEprSourceCapabilities ∣
    a is 5 ⇒ Ok Event.ExitEprMode ∣
    a is 6 ⇒ Ok Event.RequestVconnSwap ∣
    a is 7 ⇒ Ok Event.RequestDataRoleSwap ∣
    a is 8 ⇒ Ok Event.RequestPowerRoleSwap ∣
    Err (record {})

-- "10 timeout (a: 1 PPS, 2 keep-alive, 3 five seconds)"
unfoldable pub timeout : ℕ → Result Timeout UnknownCode
timeout a =
    a is 1 ⇒ Ok Timeout.Pps ∣
    a is 2 ⇒ Ok Timeout.KeepAlive ∣
    a is 3 ⇒ Ok Timeout.FiveSeconds ∣
    Err (record {})
