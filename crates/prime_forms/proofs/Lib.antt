-- Laws of the calls that write prime forms.
pub mod NoListForms
