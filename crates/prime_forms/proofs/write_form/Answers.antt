-- `prime_forms::write_form` meets its contract: it is the call with an empty list. Assumes nothing.
use Rattle.prime_forms.proofs.NoListForms.{formed_none}
use Rattle.prime_forms.proofs.write_form.Goals as goal

pub returns : goal.returns
returns c = (formed_none _ _ _ _ _ _ _).0 c.write_form_alike.ensures
