mod Description
